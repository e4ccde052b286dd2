-- So many calls stand in the buffer, and the generator is the one after them.
use Rattle.std.proofs.Common.{length}
use Rattle.bench_load.specs.Loads.{generator_of}
use Rattle.bench_load.proofs.LoadLaws.{Filled}
use Rattle.bench_load.proofs.fill.Given as goal

abbrev pub invariant-loop-i : goal.invariant-loop-i
invariant-loop-i l = Filled l.flows (generator_of l.initial.generator) (length l.initial.to) l.to (generator_of l.generator) l.i
