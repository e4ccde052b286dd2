-- `lines::append_line` meets its contract: the law `line_grows`.
use Rattle.lookup.specs.Answers.{answer_of}
use Rattle.lines.proofs.LineLaws.{line_grows}
use Rattle.lines.proofs.append_line.Goals as goal

pub returns-clause-grows : goal.returns-clause-grows
returns-clause-grows c =
    line_grows c.args.call c.args.letter (answer_of c.args.x) c.push_decimal.ensures.grows c.push_letter.ensures.grows
    (rw c.from.ensures at c.push_decimal-2.ensures.grows)
    (rw c.from-2.ensures at c.push_decimal-3.ensures.grows)
    (rw c.from-3.ensures at c.push_decimal-4.ensures.grows)
    (rw c.from-4.ensures at c.push_decimal-5.ensures.grows)
