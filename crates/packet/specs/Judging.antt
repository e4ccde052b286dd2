-- What a packet of a version says, what is read of it, and what is known of a packet that is not refused.
use Rattle.std.specs.Prelude.{◌≡◌, Bool, true, cond, List, [], ◌∷◌, ◌++◌, ℕ, ◌≤◌, length, drop}
use Rattle.theory.specs.Packet.{cut_in, ports_in, Reading}

-- part by part; an address is its bytes
pub record Said : Type 0 where
  pub header_wrong : Bool
  pub header_length : ℕ
  pub has_ports : Bool
  pub source : List ℕ
  pub destination : List ℕ
  pub protocol : ℕ

abbrev pub after_header : Said → List ℕ → List ℕ
after_header said q = drop said.header_length q

abbrev pub key_of : Said → List ℕ → List ℕ
key_of said q = said.source ++ said.destination ++ ports_in said.has_ports (after_header said q) ++ (said.protocol ∷ [])

-- for keys of so many bytes, and the number that refuses a wrong header
abbrev pub reading_of : ℕ → ℕ → Said → List ℕ → Reading
reading_of width number said q =
    record { width = width; header_number = number; wrong = said.header_wrong; cut = cut_in said.has_ports (after_header said q); key = key_of said q }

-- the number of a wrong header, 11, else 0
unfoldable pub refusal_of : Reading → ℕ
refusal_of r = cond r.wrong r.header_number (cond r.cut 11 0)

-- the ports are in the part after the header, if the packet has some
abbrev pub PortsThere : Bool → List ℕ → Type 0
PortsThere has after = has ≡ true → 4 ≤ length after
