-- Both steps, then the sum of what they give.
use Rattle.theory.specs.BenchLoad.{stepped, next_number}
use Rattle.bench_load.proofs.advance.Goals as goal

pub returns-clause-steps : goal.returns-clause-steps
unfolding stepped
returns-clause-steps c = cc

pub returns-clause-gives : goal.returns-clause-gives
unfolding stepped next_number
returns-clause-gives c = cc
