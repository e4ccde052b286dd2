-- `calls::judge` meets its contract: the settings' own judgement, then the lengths.
use Rattle.std.proofs.Common.{◌≡◌, sym, ◌∙◌, Result, Ok}
use Rattle.std.proofs.lemmas.Result.{err_from_is_err_and}
use Rattle.memory.specs.declared.refusals.Refusal.{Refusal}
use Rattle.settings.specs.declared.Settings.{Settings}
use Rattle.settings.specs.Checked.{given_of, checked_of}
use Rattle.settings.proofs.Laws.{allowed_arm, refused_arm}
use Rattle.calls.specs.Calling.{judged}
use Rattle.calls.proofs.judge.Goals as goal

pub returns-in_err-s : goal.returns-in_err-s
unfolding judged
returns-in_err-s c =
    let h = refused_arm _ _ c.new.ensures _ c.in_err-s.was in
    let p = err_from_is_err_and c.from_residual.result c.from_residual.ensures.1 in
    rw (p.1, p.2, h.1, h.0)

pub returns-then-not-lent_right : goal.returns-then-not-lent_right
unfolding judged
returns-then-not-lent_right c =
    let h = allowed_arm _ _ c.new.ensures _ c.in_ok-s.was in
    let wrong = sym c.lent_right.ensures ∙ c.if-not-lent_right.true in
    rw (h.0, rw h.1 at wrong)

pub returns : goal.returns
unfolding judged
returns c =
    let h = allowed_arm _ _ c.new.ensures _ c.in_ok-s.was in
    let right = sym c.lent_right.ensures ∙ c.if-not-lent_right.false in
    let same : ◌≡◌ {A = Result Settings Refusal} (Ok c.in_ok-s.s) (checked_of (given_of c.args.given)) = sym c.in_ok-s.was ∙ c.new.ensures in
    rw (h.0, rw h.1 at right) (rw h.0 at same)
