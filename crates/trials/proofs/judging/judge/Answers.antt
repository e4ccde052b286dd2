-- `trials::judging::judge` meets its contract: each test is one of the definition's, in its order.
use Rattle.std.proofs.Common.{sym, ap, ◌∙◌, length, lt-ltb, le-ltb}
use Rattle.std.proofs.lemmas.Result.{err_from_is_err_and}
use Rattle.theory.specs.Settings as plain
use Rattle.theory.specs.Settings.{allowed, card_of}
use Rattle.theory.specs.Trials.{trial_settings, area_above}
use Rattle.settings.specs.Checked.{checked_of}
use Rattle.settings.proofs.Laws.{allowed_arm, refused_arm}
use Rattle.trials.specs.Data.{judged_trial}
use Rattle.trials.proofs.judging.judge.Goals as goal

pub returns-then-bytes-lt12 : goal.returns-then-bytes-lt12
unfolding judged_trial
returns-then-bytes-lt12 c = rw (lt-ltb (length c.args.bytes.now) 12 c.if-bytes-lt12.true)

pub returns-in_err-s : goal.returns-in_err-s
unfolding judged_trial
returns-in_err-s c =
    let h = refused_arm (trial_settings c.args.bytes.now) _ (c.new.ensures ∙ ap checked_of c.read_settings.ensures) _ c.in_err-s.was in
    let p = err_from_is_err_and c.from_residual.result c.from_residual.ensures.1 in
    rw (p.1, p.2, h.1, le-ltb (length c.args.bytes.now) 12 c.if-bytes-lt12.false, h.0)

pub area_above-requires : goal.area_above-requires
area_above-requires c =
    let h = allowed_arm (trial_settings c.args.bytes.now) _ (c.new.ensures ∙ ap checked_of c.read_settings.ensures) _ c.in_ok-s.was in ap allowed h.1 ∙ h.0

pub returns-then-area_above : goal.returns-then-area_above
unfolding judged_trial
returns-then-area_above c =
    let h = allowed_arm (trial_settings c.args.bytes.now) _ (c.new.ensures ∙ ap checked_of c.read_settings.ensures) _ c.in_ok-s.was in
    let above = sym (c.area_above.ensures ∙ ap (λ (t : plain.Settings). area_above (card_of t)) h.1) ∙ c.if-area_above.true in
    rw (le-ltb (length c.args.bytes.now) 12 c.if-bytes-lt12.false, h.0, above)

pub returns : goal.returns
unfolding judged_trial
returns c =
    let h = allowed_arm (trial_settings c.args.bytes.now) _ (c.new.ensures ∙ ap checked_of c.read_settings.ensures) _ c.in_ok-s.was in
    let within = sym (c.area_above.ensures ∙ ap (λ (t : plain.Settings). area_above (card_of t)) h.1) ∙ c.if-area_above.false in
    rw (le-ltb (length c.args.bytes.now) 12 c.if-bytes-lt12.false, h.0, within, ← h.1)
