-- The digits are the number's decimal text, and the byte stands after them.
use Rattle.std.proofs.Common.{◌≡◌, take, ◌∙◌}
use Rattle.theory.specs.Flowrun.{decimal}
use Rattle.text.proofs.TextLaws.{fewest_decimal, grows_then}
use Rattle.text.proofs.Text.push_decimal.Goals as goal

pub returns-clause-grows : goal.returns-clause-grows
returns-clause-grows c =
    let digits = c.decimal-k in
    let spelled : take digits.result digits.new.out ≡ decimal c.args.n = digits.ensures.digits ∙ fewest_decimal digits.result c.args.n digits.ensures.len in
    rw (← spelled) (grows_then c.push.ensures c.push-2.ensures)
