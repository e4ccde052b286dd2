-- The loop keeps that all records rise just when those from the one before record i on do.
use Rattle.std.proofs.Common.{◌≡◌}
use Rattle.theory.specs.Records.{records, rising}
use Rattle.ledger.proofs.RisingLaws.{records_before}
use Rattle.ledger.proofs.keys.keys_rise.Given as goal

abbrev pub invariant-loop-i : goal.invariant-loop-i
invariant-loop-i l = rising (records_before l.width l.n l.places l.i) ≡ rising (records l.width l.n l.places)
