-- The loop keeps that the test of the bytes from i on is that of the keys.
use Rattle.std.proofs.Common.{◌≡◌, drop}
use Rattle.theory.specs.Records.{key_below}
use Rattle.ledger.proofs.keys.below_key.Given as goal

abbrev pub invariant-loop-i : goal.invariant-loop-i
invariant-loop-i l = key_below (drop l.i l.a) (drop l.i l.b) ≡ key_below l.a l.b
