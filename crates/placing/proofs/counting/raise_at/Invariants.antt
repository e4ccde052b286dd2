-- After j hashes each count is one more where its bucket is one of them.
use Rattle.placing.proofs.CountingLaws.{Raised}
use Rattle.placing.proofs.counting.raise_at.Given as goal

abbrev pub invariant-loop-j : goal.invariant-loop-j
invariant-loop-j l = Raised l.m l.h l.j l.fn.counts l.counts
