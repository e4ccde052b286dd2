-- Whether a counter from bucket b on is above T is whether any is.
use Rattle.std.proofs.Common.{ltb}
use Rattle.theory.specs.Lookup.{counter}
use Rattle.tally.proofs.TallyLaws.{AnyLeft}
use Rattle.tally.proofs.counters_valid.Given as goal

abbrev pub invariant-loop-b : goal.invariant-loop-b
invariant-loop-b l = AnyLeft (λ b. ltb l.s.top (counter l.clipped b)) l.m l.b
