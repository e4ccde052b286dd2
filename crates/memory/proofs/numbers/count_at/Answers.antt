use Rattle.std.proofs.Common.{arith, ◌∙◌}
use Rattle.memory.proofs.ByteNumberLaws.{count_read}
use Rattle.memory.proofs.numbers.count_at.Goals as goal

pub returns : goal.returns
returns c = let e = count_read c.args.area.now c.requires in (c.from.ensures ∙ (rw c.bytes_at.ensures at c.from_be_bytes.ensures ∙ e), omega arith)
