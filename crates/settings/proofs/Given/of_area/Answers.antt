use Rattle.std.proofs.Common.{◌≡◌, false, eqb, length, arith}
use borrow.Author.Tests.{ne_eqb, ltb-true, ltb-false}
use Rattle.theory.specs.Settings.{settings_in}
use Rattle.settings.proofs.Given.of_area.Goals as goal

pub returns-in_default : goal.returns-in_default
unfolding settings_in
returns-in_default c =
    let e : eqb (length c.args.area.now) 7 ≡ false = ne_eqb (length c.args.area.now) 7
    (λ (q : length c.args.area.now ≡ 7). grind (arith, ltb-true, ltb-false))
    in rw e (cc)

pub returns : goal.returns
unfolding settings_in
returns c = let e : length c.args.area.now ≡ 7 = omega arith in rw e
