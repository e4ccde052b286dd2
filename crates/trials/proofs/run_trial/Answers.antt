-- `trials::run_trial` meets its contract: refused, zeros follow; else the load is played under the trial's settings.
use Rattle.std.proofs.Common.{◌∙◌}
use Rattle.std.proofs.lemmas.Result.{err_from_is_err_and}
use Rattle.bench_load.specs.Loads.{load_of}
use Rattle.trials.proofs.JudgeTrialLaws.{refused_tells, ready_tells, taken_numbers}
use Rattle.trials.proofs.run_trial.Goals as goal

pub returns-in_err-s-clause-answer : goal.returns-in_err-s-clause-answer
returns-in_err-s-clause-answer c =
    let p = err_from_is_err_and c.from_residual.result c.from_residual.ensures.1 in
    rw (p.1, p.2) (refused_tells _ (load_of c.args.load) _ c.in_err-s.ensures).0

pub returns-in_err-s-clause-numbers : goal.returns-in_err-s-clause-numbers
returns-in_err-s-clause-numbers c =
    let p = err_from_is_err_and c.from_residual.result c.from_residual.ensures.1 in
    rw p.1 (refused_tells _ (load_of c.args.load) _ c.in_err-s.ensures).1

pub play_in_parts-requires-clause-ok : goal.play_in_parts-requires-clause-ok
play_in_parts-requires-clause-ok c = (ready_tells _ c.in_ok-s.s c.in_ok-s.ensures).ok

pub play_in_parts-requires-clause-within : goal.play_in_parts-requires-clause-within
play_in_parts-requires-clause-within c = (ready_tells _ c.in_ok-s.s c.in_ok-s.ensures).within

pub returns-clause-answer : goal.returns-clause-answer
returns-clause-answer c = (ready_tells _ c.in_ok-s.s c.in_ok-s.ensures).answered

pub returns-clause-numbers : goal.returns-clause-numbers
returns-clause-numbers c = c.play_in_parts.ensures ∙ taken_numbers _ (load_of c.args.load) c.in_ok-s.s (ready_tells _ c.in_ok-s.s c.in_ok-s.ensures)
