-- After i choices, how many of them are of keys that belong to the side.
use Rattle.std.proofs.Common.{◌≡◌, ◌≤◌, length, take}
use Rattle.theory.specs.Lists.{filter}
use Rattle.settings.specs.Checked.{card}
use Rattle.placing.specs.Worked.{nth, side_by_choice}
use Rattle.placing.proofs.side_need.Given as goal

abbrev pub invariant-loop-choice : goal.invariant-loop-choice
invariant-loop-choice l =
    (l.need ≤ l.choice-index) × (l.need ≡ length (filter (side_by_choice (card l.s) (nth l.placement.choosers.now)) (take l.choice-index l.placement.choices.now)))
