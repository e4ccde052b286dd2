use Rattle.std.proofs.Common.{◌∙◌}
use Rattle.memory.proofs.ByteNumberLaws.{class_read}
use Rattle.memory.proofs.records.class_at.Goals as goal

pub returns : goal.returns
returns c = rw c.bytes_at.ensures at c.from_be_bytes.ensures ∙ class_read c.args.area.now c.args.at c.requires
