-- By the definition.
use Rattle.std.proofs.Common.{rules}
use Rattle.theory.specs.Packet6.{next_header}
use Rattle.packet.proofs.ipv6.Ipv6Version.protocol.Goals as goal

pub returns : goal.returns
unfolding next_header
returns c = search rules
