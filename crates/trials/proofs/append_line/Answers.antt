-- `trials::append_line` meets its contract: the law `line_grows`; of a refused trial the numbers are zeros.
use Rattle.trials.specs.Data.{numbers_of}
use Rattle.std.proofs.Common.{◌≡◌}
use Rattle.theory.specs.Trials.{no_numbers}
use Rattle.trials.proofs.TrialLineLaws.{line_grows}
use Rattle.trials.proofs.append_line.Goals as goal
use Rattle.trials.proofs.append_line.Goals.{in-Ok, in-Err}

pub returns-clause-grows : goal.returns-clause-grows
returns-clause-grows c =
    let shown = line_grows c.args.number c.match-trial.answer.0 (numbers_of c.match-trial.answer.1) c.push_decimal.ensures.grows
    (rw c.from.ensures at c.push_decimal-2.ensures.grows)
    c.push_decimal-3.ensures.grows c.push_decimal-4.ensures.grows c.push_decimal-5.ensures.grows c.push_decimal-6.ensures.grows
    c.push_decimal-7.ensures.grows c.push_decimal-8.ensures.grows in
    elim c.match-trial.branch [
      | in-Ok w ↦ rw w.in-Ok.is (rw w.answer-is at shown)
      | in-Err w ↦ rw w.in-Err.is (let none : numbers_of w.default.result ≡ no_numbers = cc in rw (w.answer-is, w.number.ensures, none) at shown)
    ]
