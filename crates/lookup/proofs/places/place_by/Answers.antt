-- `lookup::places::place_by` meets its contract: each test is the definition's.
use Rattle.std.proofs.Common.{◌≡◌, refl, sym, ap, ◌∙◌, ℕ, Bool, Some, eqb}
use borrow.Author.Tests.{eqb-false}
use Rattle.settings.specs.declared.Settings.{Settings}
use Rattle.settings.specs.Checked.{paper, card}
use Rattle.settings.proofs.Laws.{top_is}
use Rattle.lookup.specs.Places.{KeyCountersFit, place_by, goes_by}
use Rattle.lookup.proofs.places.place_by.Goals as goal

-- whether all are T
all_top : (s : Settings) (least : ℕ) (x : Bool) → x ≡ eqb least s.top → eqb least (card s).top ≡ x
all_top s least x e = ap (eqb least) (top_is (paper s)) ∙ sym e

pub returns-in_default : goal.returns-in_default
unfolding place_by goes_by
returns-in_default c = rw c.in_default.is (record { looks = record { is = refl; inside = tt }; goes = tt })

pub returns-then-is : goal.returns-then-is
unfolding place_by goes_by
returns-then-is c = rw (c.in-Some.is, sym c.is.ensures ∙ c.if-is.true) (record { looks = record { is = refl; inside = tt }; goes = tt })

pub returns-then-is-2 : goal.returns-then-is-2
unfolding place_by goes_by
returns-then-is-2 c =
    rw (c.in-Some.is, sym c.is.ensures ∙ c.if-is.false, all_top c.args.s c.in-Some.choice.least.0 _ c.is-2.ensures ∙ c.if-is-2.true)
    (c.side_place.ensures c.args.buckets.now c.in-Some.choice.bucket)

pub bucket_place-requires : goal.bucket_place-requires
bucket_place-requires c =
    let fit : KeyCountersFit (paper c.args.s) (Some c.in-Some.choice) = rw c.in-Some.is at c.requires.1 in
    (c.requires.0, fit (eqb-false _ _ (sym c.is-2.ensures ∙ c.if-is-2.false)))

pub returns : goal.returns
unfolding place_by goes_by
returns c =
    rw (c.in-Some.is, sym c.is.ensures ∙ c.if-is.false, all_top c.args.s c.in-Some.choice.least.0 _ c.is-2.ensures ∙ c.if-is-2.false)
    c.bucket_place.ensures
