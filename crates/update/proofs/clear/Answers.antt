-- 1, 2, or the layout of the empty list
use Rattle.std.proofs.Common.{sym, ◌∙◌}
use Rattle.std.proofs.lemmas.Result.{err_from_is_err_and}
use Rattle.settings.proofs.Laws.{refused_arm}
use Rattle.settings.proofs.LengthLaws.{sized_by}
use Rattle.settings.specs.Checked.{given_of, card}
use Rattle.writing.proofs.JudgedLaws.{permitted}
use Rattle.update.proofs.PerformLaws.{clears_1, clears_2, clears}
use Rattle.update.proofs.clear.Goals as goal

pub returns-in_err-s-clause-performed : goal.returns-in_err-s-clause-performed
returns-in_err-s-clause-performed c =
    let p = err_from_is_err_and c.from_residual.result c.from_residual.ensures.1 in
    let refused = refused_arm (given_of c.args.given) _ c.new.ensures _ c.in_err-s.was in
    rw (p.1, p.2, refused.1) (clears_1 (given_of c.args.given) _ refused.0)

pub returns-then-not-have_lengths-clause-performed : goal.returns-then-not-have_lengths-clause-performed
returns-then-not-have_lengths-clause-performed c =
    clears_2 (permitted (given_of c.args.given) c.new.ensures c.in_ok-s.was) _ c.have_lengths.ensures c.if-not-have_lengths.true

pub returns-clause-performed : goal.returns-clause-performed
returns-clause-performed c =
    let allowed = permitted (given_of c.args.given) c.new.ensures c.in_ok-s.was in
    clears allowed _ c.have_lengths.ensures c.if-not-have_lengths.false (c.clear_areas.ensures.cleared (card c.in_ok-s.s)
    (sized_by (card c.in_ok-s.s) _ (sym c.have_lengths.ensures ∙ c.if-not-have_lengths.false)))
