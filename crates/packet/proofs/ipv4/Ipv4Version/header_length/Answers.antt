-- By the definition.
use Rattle.std.proofs.Common.{rules}
use Rattle.theory.specs.Packet.{header_length}
use Rattle.packet.proofs.ipv4.Ipv4Version.header_length.Goals as goal

pub returns : goal.returns
unfolding header_length
returns c = search rules
