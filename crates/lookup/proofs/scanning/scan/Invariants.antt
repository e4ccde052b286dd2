-- The first i records have another key.
use Rattle.lookup.proofs.ScanLaws.{Scanning}
use Rattle.lookup.proofs.scanning.scan.Given as goal

abbrev pub invariant-loop-i : goal.invariant-loop-i
invariant-loop-i l = Scanning l.key l.n l.place l.i
