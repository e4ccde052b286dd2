-- The loop keeps that the first i are copied.
use Rattle.memory.proofs.CopyLaws.{Copied}
use Rattle.memory.proofs.parts.copy_counts.Given as goal

abbrev pub invariant-loop-i : goal.invariant-loop-i
invariant-loop-i l = Copied l.counts l.to l.i
