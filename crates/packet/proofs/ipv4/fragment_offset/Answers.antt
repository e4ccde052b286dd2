-- What is lent to be read as a number is bytes 6 and 7.
use Rattle.std.proofs.Common.{arith}
use Rattle.std.proofs.Math.Seq.{take-take}
use Rattle.theory.specs.Packet.{fragment_offset}
use Rattle.packet.proofs.ipv4.fragment_offset.Goals as goal

pub returns : goal.returns
unfolding fragment_offset
returns c = rw (c.count_at.ensures.0, take-take 2 2 _ (omega arith))
