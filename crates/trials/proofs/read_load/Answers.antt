-- `trials::read_load` meets its contract: bench_load's reasons for 15, and the count.
use Rattle.std.proofs.Common.{sym, ap, ◌∙◌, arith}
use Rattle.std.proofs.lemmas.Result.{err_from_is_err_and}
use Rattle.bench_load.specs.Loads.{load_of, asked_of}
use Rattle.trials.proofs.JudgeTrialLaws.{no_load, too_many, load_taken}
use Rattle.trials.proofs.read_load.Goals as goal

pub returns-in_err-load-clause-load : goal.returns-in_err-load-clause-load
returns-in_err-load-clause-load c =
    let p = err_from_is_err_and c.from_residual.result c.from_residual.ensures.1 in
    rw p.1 (no_load _ (sym c.read_load.ensures.load ∙ ap asked_of c.in_err-load.was))

pub returns-then-load-gt-MOST_CALLS-clause-load : goal.returns-then-load-gt-MOST_CALLS-clause-load
returns-then-load-gt-MOST_CALLS-clause-load c =
    too_many _ (load_of c.in_ok-load.load) (sym c.read_load.ensures.load ∙ ap asked_of c.in_ok-load.was) (omega (arith, c.if-load-gt-MOST_CALLS.true))

pub returns-clause-load : goal.returns-clause-load
returns-clause-load c =
    load_taken _ (load_of c.in_ok-load.load) (sym c.read_load.ensures.load ∙ ap asked_of c.in_ok-load.was) (omega (arith, c.if-load-gt-MOST_CALLS.false))
