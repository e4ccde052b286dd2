-- The load stays, each trial has the next number, and the areas keep their lengths.
use Rattle.std.proofs.Common.{◌≡◌, ◌+◌}
use Rattle.settings.specs.Areas.{contents}
use Rattle.trials.specs.Playing.{Lent}
use Rattle.flowtrial.proofs.run_trials.Given as goal

abbrev pub invariant-loop-trial : goal.invariant-loop-trial
invariant-loop-trial l =
    record { number : l.left.number ≡ l._trial + 1; load : l.left.load ≡ l.initial.left.load; lent : Lent (contents l.areas) l.work }
