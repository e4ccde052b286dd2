-- The loop keeps `Halving`, that every record before low is below the key and none from high on is.
use Rattle.std.proofs.Common.{◌-◌, length}
use Rattle.theory.specs.Records.{records}
use Rattle.ledger.proofs.SpotLaws.{Halving}
use Rattle.ledger.proofs.spots.find_spot.Given as goal

abbrev pub invariant-loop-low : goal.invariant-loop-low
invariant-loop-low l = Halving (records (length l.key) l.n l.places) l.key l.low l.high

abbrev pub decreases-loop-low : goal.decreases-loop-low
decreases-loop-low l = l.high - l.low
