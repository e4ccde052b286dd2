-- What tally gives, in an area of four numbers.
use Rattle.std.proofs.Common.{◌≡◌, length, refl, arith}
use Rattle.settings.proofs.Laws.{allowed_arm}
use Rattle.card.proofs.ReadingLaws.{tallied}
use Rattle.card.proofs.reading.give_totals.Goals as goal

pub returns : goal.returns
returns c =
    let four : length c.args.totals.now ≡ 4 = omega arith in
    rw c.copy_from_slice.ensures.after
    (tallied _ _ _ _ _ _ (allowed_arm _ _ c.in_ok-new.ensures _ refl).0 four _ c.in_ok-in_buckets.ensures _ refl)
