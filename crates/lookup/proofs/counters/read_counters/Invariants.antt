-- At hash j: what is found so far joined with the hashes from j on is what all hashes give.
use Rattle.std.proofs.Common.{◌+◌, ◌*◌}
use Rattle.lookup.proofs.CounterLaws.{SoFar}
use Rattle.lookup.proofs.counters.read_counters.Given as goal

abbrev pub invariant-loop-j : goal.invariant-loop-j
invariant-loop-j l = SoFar l.fn.s.top l.fn.s.k l.m l.h l.clipped l.rest l.most.0 l.best (l.fn.s.top * 65536 + l.m) l.j
