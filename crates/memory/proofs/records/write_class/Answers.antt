use Rattle.std.proofs.Common.{◌∙◌}
use Rattle.memory.proofs.ByteNumberLaws.{class_written}
use Rattle.memory.proofs.records.write_class.Goals as goal

pub returns : goal.returns
returns c = c.copy_from_slice.ensures.after ∙ c.to_be_bytes.ensures ∙ class_written c.args.class
