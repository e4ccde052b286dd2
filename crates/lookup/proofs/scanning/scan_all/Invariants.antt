-- Of the places from i on, the first that has the key, or the room.
use Rattle.lookup.proofs.ScanLaws.{First}
use Rattle.lookup.proofs.scanning.scan_all.Given as goal

abbrev pub invariant-loop-i : goal.invariant-loop-i
invariant-loop-i l = First l.key l.n l.place l.room l.i l.first
