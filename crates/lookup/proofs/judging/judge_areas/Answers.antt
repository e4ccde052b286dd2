-- `lookup::judging::judge_areas` meets its contract: 1, then 2.
use Rattle.std.proofs.Common.{sym, ◌∙◌}
use Rattle.std.proofs.lemmas.Result.{err_from_is_err_and}
use Rattle.settings.specs.Checked.{given_of}
use Rattle.lookup.proofs.JudgeLaws.{setting_wrong, areas_wrong, areas_right}
use Rattle.lookup.proofs.judging.judge_areas.Goals as goal

pub returns-in_err-s : goal.returns-in_err-s
returns-in_err-s c =
    let p = err_from_is_err_and c.from_residual.result c.from_residual.ensures.1 in
    rw (p.1, p.2) (setting_wrong (given_of c.args.given) _ _ _ _ c.in_err-s.ensures)

pub returns-then-not-have_lengths : goal.returns-then-not-have_lengths
returns-then-not-have_lengths c =
    areas_wrong (given_of c.args.given) _ _ _ c.in_ok-s.s c.in_ok-s.ensures (sym c.have_lengths.ensures ∙ c.if-not-have_lengths.true)

pub returns : goal.returns
returns c = areas_right (given_of c.args.given) _ _ _ c.in_ok-s.s c.in_ok-s.ensures (sym c.have_lengths.ensures ∙ c.if-not-have_lengths.false)
