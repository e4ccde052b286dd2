-- The generator steps twice.
use Rattle.theory.specs.BenchLoad.{draw, after_call}
use Rattle.bench_load.proofs.Generator.next_two.Goals as goal

pub returns-clause-numbers : goal.returns-clause-numbers
unfolding draw
returns-clause-numbers c = cc

pub returns-clause-after : goal.returns-clause-after
unfolding after_call
returns-clause-after c = cc
