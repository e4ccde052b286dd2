-- `placing::side_need` meets its contract: the choices of a placed list tell who belongs to the side.
use mathlib.Core.Path.{ap, ◌∙◌}
use lib.Seq.{take_all}
use Rattle.std.proofs.Common.{List, ℕ, length}
use Rattle.theory.specs.Lists.{filter}
use Rattle.theory.proofs.SettingsLaws.{sound}
use Rattle.settings.specs.Checked.{card}
use Rattle.placing.specs.Worked.{nth, side_by_choice}
use Rattle.placing.proofs.WorkLaws.{need_kept}
use Rattle.placing.proofs.side_need.Goals as goal

pub returns : goal.returns
returns c =
    let p = side_by_choice (card c.args.s) (nth c.args.placement.choosers.now) in
    let all = take_all c.loop-choice.choice-index c.args.placement.choices.now c.loop-choice-test.false in
    λ l g. c.loop-choice.invariant.1 ∙ ap (λ (z : List ℕ). length (filter p z)) all ∙ need_kept g (sound _ c.requires.ok)
