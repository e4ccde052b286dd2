use Rattle.memory.proofs.ByteNumberLaws.{two_written}
use Rattle.memory.proofs.numbers.write_number.Goals as goal

pub returns : goal.returns
returns c = rw (c.copy_from_slice.ensures.after, c.to_be_bytes.ensures, ← two_written c.args.n)
