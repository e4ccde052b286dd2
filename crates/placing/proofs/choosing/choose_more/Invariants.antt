-- After i records these have chosen, and the first i places of choices hold their choices.
use Rattle.std.proofs.Common.{◌≡◌, length, take}
use Rattle.theory.specs.Records.{records}
use Rattle.settings.specs.Checked.{card}
use Rattle.placing.specs.Worked.{Chose}
use Rattle.placing.proofs.choosing.choose_more.Given as goal

abbrev pub invariant-loop-i : goal.invariant-loop-i
invariant-loop-i l =
    (length l.choices ≡ length l.initial.choices) × Chose (card l.s) l.counts (records (card l.s).width l.i l.part) l.fn.choosers l.choosers (take l.i l.choices)
