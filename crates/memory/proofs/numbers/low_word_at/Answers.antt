use Rattle.std.proofs.Common.{◌∙◌}
use Rattle.memory.proofs.ByteNumberLaws.{word_read}
use Rattle.memory.proofs.numbers.low_word_at.Goals as goal

pub returns : goal.returns
returns c = rw c.bytes_at.ensures at c.from_le_bytes.ensures ∙ word_read c.args.area.now c.args.at c.requires
