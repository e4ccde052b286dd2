-- What an IPv4 packet says, and an IPv6 packet, and that this is what theory reads of it.
use Rattle.std.specs.Prelude.{◌≡◌, List, ℕ, take, drop, refl}
use Rattle.theory.specs.Settings.{ipv4_width, ipv6_width}
use Rattle.theory.specs.Packet.{header_wrong, header_length, has_ports, protocol, after_header, ports_cut, ports, packet_key, keyed, read_packet}
use Rattle.theory.specs.Packet6.{header6_wrong, next_header, has_ports6, ports6_cut, ports6, packet6_key, read_packet6}
use Rattle.packet.specs.Judging.{Said, reading_of}

abbrev pub said4 : List ℕ → Said
said4 q =
    record {
      header_wrong = header_wrong q;
      header_length = header_length q;
      has_ports = has_ports q;
      source = take 4 (drop 12 q);
      destination = take 4 (drop 16 q);
      protocol = protocol q;
    }

abbrev pub said6 : List ℕ → Said
said6 q =
    record {
      header_wrong = header6_wrong q;
      header_length = 40;
      has_ports = has_ports6 q;
      source = take 16 (drop 8 q);
      destination = take 16 (drop 24 q);
      protocol = next_header q;
    }

pub read4_is : (q buffer : List ℕ) → read_packet q buffer ≡ keyed (reading_of ipv4_width 10 (said4 q) q) buffer
unfolding read_packet ports_cut packet_key ports after_header
read4_is q buffer = refl

pub read6_is : (q buffer : List ℕ) → read_packet6 q buffer ≡ keyed (reading_of ipv6_width 16 (said6 q) q) buffer
unfolding read_packet6 ports6_cut packet6_key ports6
read6_is q buffer = refl
