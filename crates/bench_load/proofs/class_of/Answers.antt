-- The low 32 bits.
use Rattle.std.proofs.Common.{rules}
use Rattle.theory.specs.BenchLoad.{load_class}
use Rattle.bench_load.proofs.class_of.Goals as goal

pub returns : goal.returns
unfolding load_class
returns c = search rules
