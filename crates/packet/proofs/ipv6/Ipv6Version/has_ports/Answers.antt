-- By the next header.
use Rattle.theory.specs.Packet6.{has_ports6}
use Rattle.packet.proofs.ipv6.Ipv6Version.has_ports.Goals as goal

pub returns : goal.returns
unfolding has_ports6
returns c = rw (c.protocol_has_ports.ensures, c.protocol-next.ensures)
