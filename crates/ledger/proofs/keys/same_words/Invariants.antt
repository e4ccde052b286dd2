-- The loop keeps that the test is that of the words before word i and of the last one.
use Rattle.std.proofs.Common.{◌≡◌, ◌-◌, ◌*◌, ◌&&◌, length, take}
use Rattle.theory.specs.Records.{same_key}
use Rattle.ledger.proofs.KeyCompareLaws.{word}
use Rattle.ledger.proofs.keys.same_words.Given as goal

abbrev pub invariant-loop-i : goal.invariant-loop-i
invariant-loop-i l =
    l.same ≡ (same_key (take (8 * l.i) l.a) (take (8 * l.i) l.b) && same_key (word l.a (length l.a - 8)) (word l.b (length l.a - 8)))
