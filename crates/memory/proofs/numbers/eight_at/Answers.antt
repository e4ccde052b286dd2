use Rattle.std.proofs.Common.{◌∙◌}
use Rattle.memory.proofs.ByteNumberLaws.{eight_read}
use Rattle.memory.proofs.numbers.eight_at.Goals as goal

pub returns : goal.returns
returns c = rw c.bytes_at.ensures at c.from_be_bytes.ensures ∙ eight_read c.args.area.now c.args.at c.requires
