-- `trials::numbers::Numbers::count` meets its contract: each field is what the reply adds to it.
use Rattle.theory.specs.Trials.{counted}
use Rattle.trials.proofs.TrialNumberLaws.{byte_is, greater_is}
use Rattle.trials.proofs.numbers.Numbers.count.Goals as goal

pub returns-clause-counted : goal.returns-clause-counted
unfolding counted
returns-clause-counted c =
    rw (
      c.max-self.ensures,
      greater_is,
      c.from.ensures,
      c.from-2.ensures,
      c.from-3.ensures,
      c.from-4.ensures,
      c.from-5.ensures,
      c.number.ensures,
      c.number-2.ensures,
      c.number-3.ensures,
      c.number-4.ensures,
      c.compared_of.ensures,
      c.number_of-number.ensures,
    ) (simp byte_is)
