-- By the definition.
use Rattle.std.proofs.Common.{rules}
use Rattle.theory.specs.Packet.{protocol}
use Rattle.packet.proofs.ipv4.Ipv4Version.protocol.Goals as goal

pub returns : goal.returns
unfolding protocol
returns c = search rules
