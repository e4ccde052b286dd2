-- The first i bytes are clipped counts.
use Rattle.std.proofs.Common.{length}
use Rattle.memory.proofs.CopyLaws.{Copied}
use Rattle.placing.specs.Worked.{nth}
use Rattle.writing.specs.Counts.{clipped_bytes}
use Rattle.writing.proofs.counts.write_clipped.Given as goal

abbrev pub invariant-loop-i : goal.invariant-loop-i
invariant-loop-i l = Copied (clipped_bytes l.top (nth l.counts) (length l.initial.clipped)) l.clipped l.i
