-- By the fragment offset and the protocol.
use Rattle.theory.specs.Packet.{has_ports}
use Rattle.packet.proofs.ipv4.Ipv4Version.has_ports.Goals as goal

pub returns : goal.returns
unfolding has_ports
returns c = rw (c.fragment_offset.ensures, c.protocol_has_ports.ensures, c.protocol.ensures)
