-- Each write leaves fewer bytes.
use Rattle.std.proofs.Common.{length}
use Rattle.streams.proofs.write_all.Given as goal

abbrev pub decreases-loop-rest : goal.decreases-loop-rest
decreases-loop-rest l = length l.rest
