use Rattle.std.proofs.Common.{◌∙◌}
use Rattle.memory.proofs.ByteNumberLaws.{eight_written}
use Rattle.memory.proofs.numbers.write_eight.Goals as goal

pub returns : goal.returns
returns c = c.copy_from_slice.ensures.after ∙ c.to_be_bytes.ensures ∙ eight_written c.args.n
