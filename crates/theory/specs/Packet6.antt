-- Document 02, U7: the key of an IPv6 packet (RFC 8200), and what holds of it. "The payload length is not read". Proofs: PacketLaws.
use Rattle.std.specs.Prelude.{◌≡◌, ◌≢◌, Bool, not, ◌||◌, List, [], ◌∷◌, ◌++◌, ℕ, ltb, eqb, length, take, drop, get_or, set}
use Rattle.theory.specs.Settings.{ipv6_width}
use Rattle.theory.specs.Packet.{version, protocol_has_ports, cut_in, ports_in, Reading, Keyed, keyed}

-- "next header (byte 6)"
unfoldable pub next_header : List ℕ → ℕ
next_header q = get_or q 6 0

-- 16: "under 40 bytes or version not 6"
unfoldable pub header6_wrong : List ℕ → Bool
header6_wrong q = ltb (length q) 40 || not (eqb (version q) 6)

-- "Another next header, extension headers (0, 43, 44, 50, 51, 60, ..) included, has zero ports"
unfoldable pub has_ports6 : List ℕ → Bool
has_ports6 q = protocol_has_ports (next_header q)

-- 11: "next header 6 or 17 with under 4 bytes from byte 40 on"
unfoldable pub ports6_cut : List ℕ → Bool
ports6_cut q = cut_in (has_ports6 q) (drop 40 q)

unfoldable pub ports6 : List ℕ → List ℕ
ports6 q = ports_in (has_ports6 q) (drop 40 q)

-- "source address (bytes 8 to 23), destination address (24 to 39), source port, destination port, next header"
unfoldable pub packet6_key : List ℕ → List ℕ
packet6_key q = take 16 (drop 8 q) ++ take 16 (drop 24 q) ++ ports6 q ++ (next_header q ∷ [])

-- 3, 16, 11
abbrev pub reading6 : List ℕ → Reading
reading6 q = record { width = ipv6_width; header_number = 16; wrong = header6_wrong q; cut = ports6_cut q; key = packet6_key q }

unfoldable pub read_packet6 : List ℕ → List ℕ → Keyed
read_packet6 q buffer = keyed (reading6 q) buffer

-- ---- WHAT HOLDS
-- a number other than 0 leaves the buffer as it was
abbrev pub RefusedPacket6 : Type 0
RefusedPacket6 = (q buffer : List ℕ) → (read_packet6 q buffer).number ≢ 0 → (read_packet6 q buffer).buffer ≡ buffer

-- "a buffer of 37 bytes": the key fills it
abbrev pub Key6Width : Type 0
Key6Width = (q buffer : List ℕ) → (read_packet6 q buffer).number ≡ 0 → length (read_packet6 q buffer).buffer ≡ ipv6_width

-- "the payload length is not read": with any bytes 4 and 5 the answer is the same
abbrev pub PayloadLengthNotRead : Type 0
PayloadLengthNotRead = (q buffer : List ℕ) (a b : ℕ) → read_packet6 (set (set q 4 a) 5 b) buffer ≡ read_packet6 q buffer

-- "Another next header .. has zero ports", and 11 is not given
abbrev pub OtherPortsZero : Type 0
OtherPortsZero =
    (q buffer : List ℕ) → next_header q ≢ 6 → next_header q ≢ 17 → (read_packet6 q buffer).number ≡ 0
    → take 4 (drop 32 (read_packet6 q buffer).buffer) ≡ 0 ∷ 0 ∷ 0 ∷ 0 ∷ []

abbrev pub OtherNeverCut : Type 0
OtherNeverCut = (q buffer : List ℕ) → next_header q ≢ 6 → next_header q ≢ 17 → (read_packet6 q buffer).number ≢ 11
