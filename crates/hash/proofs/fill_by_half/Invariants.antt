-- The first i entries are copied.
use Rattle.memory.proofs.CopyLaws.{Copied}
use Rattle.hash.proofs.fill_by_half.Given as goal

abbrev pub invariant-loop-i : goal.invariant-loop-i
invariant-loop-i l = Copied l.table l.out l.i
