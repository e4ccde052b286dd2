-- Document 01, 'Snapshot, packet, driver': the key of an IPv4 packet (RFC 791). A packet is the lent bytes; its length field is not read.
-- Document 02, U2: a later fragment has no ports; U7: what an IPv4 packet and an IPv6 packet share stands first, and Packet6 has the rest.
use Rattle.std.specs.Prelude.{Bool, cond, not, ◌&&◌, ◌||◌, List, [], ◌∷◌, ◌++◌, ℕ, ◌*◌, ◌/◌, ◌%◌, ltb, eqb, length, take, drop, get_or}
use Rattle.theory.specs.Records.{of_bytes}
use Rattle.theory.specs.Settings.{ipv4_width}

-- ---- ANY PACKET
-- the high four bits of the first byte
unfoldable pub version : List ℕ → ℕ
version q = get_or q 0 0 / 16

-- "protocols 6 and 17"
abbrev pub protocol_has_ports : ℕ → Bool
protocol_has_ports n = eqb n 6 || eqb n 17

-- source port and destination port are the first four bytes of the part after the header: cut if there are fewer, zero in a packet that has none
abbrev pub cut_in : Bool → List ℕ → Bool
cut_in has after = has && ltb (length after) 4

abbrev pub ports_in : Bool → List ℕ → List ℕ
ports_in has after = cond has (take 4 after) (0 ∷ 0 ∷ 0 ∷ 0 ∷ [])

-- what the two versions differ in: the key's width, the number that refuses a wrong header, and what the packet says
pub record Reading : Type 0 where
  pub width : ℕ
  pub header_number : ℕ
  pub wrong : Bool
  pub cut : Bool
  pub key : List ℕ

-- the answer's number, and the buffer for the key after the call
pub record Keyed : Type 0 where
  pub number : ℕ
  pub buffer : List ℕ

-- 3, the buffer does not have the key's width; the number of a wrong header; 11, cut ports. Refused, the buffer is as it was
abbrev pub keyed : Reading → List ℕ → Keyed
keyed reading buffer =
    cond (not (eqb (length buffer) reading.width)) (record { number = 3; buffer = buffer })
    (cond reading.wrong (record { number = reading.header_number; buffer = buffer })
    (cond reading.cut (record { number = 11; buffer = buffer }) (record { number = 0; buffer = reading.key })))

-- ---- IPV4
-- the low four bits of the first byte, in words of four bytes
unfoldable pub header_length : List ℕ → ℕ
header_length q = 4 * (get_or q 0 0 % 16)

unfoldable pub protocol : List ℕ → ℕ
protocol q = get_or q 9 0

-- "the fragment offset (RFC 791, low 13 bits of bytes 6 and 7)"; the three flags stand above it
unfoldable pub fragment_offset : List ℕ → ℕ
fragment_offset q = of_bytes (take 2 (drop 6 q)) % 8192

-- a whole packet or a first fragment, of protocol 6 or 17; what follows the header of a later fragment is payload
unfoldable pub has_ports : List ℕ → Bool
has_ports q = eqb (fragment_offset q) 0 && protocol_has_ports (protocol q)

-- 10: under 20 bytes, version not 4, header length under 20 or beyond the packet
unfoldable pub header_wrong : List ℕ → Bool
header_wrong q =
    ltb (length q) 20 || not (eqb (version q) 4) || ltb (header_length q) 20 || ltb (length q) (header_length q)

-- the part after the header, options skipped
unfoldable pub after_header : List ℕ → List ℕ
after_header q = drop (header_length q) q

-- 11: protocol 6 or 17 with under 4 bytes after the header, and no later fragment
unfoldable pub ports_cut : List ℕ → Bool
ports_cut q = cut_in (has_ports q) (after_header q)

unfoldable pub ports : List ℕ → List ℕ
ports q = ports_in (has_ports q) (after_header q)

-- source address, destination address, source port, destination port, protocol
unfoldable pub packet_key : List ℕ → List ℕ
packet_key q = take 4 (drop 12 q) ++ take 4 (drop 16 q) ++ ports q ++ (protocol q ∷ [])

-- 3, 10, 11
abbrev pub reading : List ℕ → Reading
reading q = record { width = ipv4_width; header_number = 10; wrong = header_wrong q; cut = ports_cut q; key = packet_key q }

unfoldable pub read_packet : List ℕ → List ℕ → Keyed
read_packet q buffer = keyed (reading q) buffer
