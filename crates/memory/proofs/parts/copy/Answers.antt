-- A turn copies one more, the law `copied_more`.
use Rattle.std.proofs.Common.{refl, arith}
use Rattle.memory.proofs.CopyLaws.{copied_more, copied_all}
use Rattle.memory.proofs.parts.copy.Goals as goal

pub loop-i-preserved : goal.loop-i-preserved
loop-i-preserved c = copied_more c.loop-i.invariant _ refl (omega arith)

pub returns : goal.returns
returns c = copied_all c.loop-i.invariant (omega arith)
