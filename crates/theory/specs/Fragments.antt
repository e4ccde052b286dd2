-- Document 02, U2: what the fragment offset alters in the answer to a packet, and what stays as it was. Proofs: PacketLaws.
use Rattle.std.specs.Prelude.{◌≡◌, ◌≢◌, Bool, cond, not, ◌&&◌, ◌||◌, List, [], ◌∷◌, ◌++◌, ℕ, ◌%◌, ltb, eqb, length, take, drop, get_or, set}
use Rattle.theory.specs.Settings.{ipv4_width}
use Rattle.theory.specs.Packet.{protocol, fragment_offset, header_wrong, after_header, read_packet}

-- "The key of all other packets is as before": at offset zero, number and buffer are by document 01 alone, whose expression this is
abbrev pub FirstAsBefore : Type 0
FirstAsBefore =
    (q buffer : List ℕ) → fragment_offset q ≡ 0
    → read_packet q buffer
    ≡ (let has : Bool = eqb (protocol q) 6 || eqb (protocol q) 17 in
    let ports : List ℕ = cond has (take 4 (after_header q)) (0 ∷ 0 ∷ 0 ∷ 0 ∷ []) in
    cond (not (eqb (length buffer) ipv4_width)) (record { number = 3; buffer = buffer })
    (cond (header_wrong q) (record { number = 10; buffer = buffer })
    (cond (has && ltb (length (after_header q)) 4) (record { number = 11; buffer = buffer })
    (record { number = 0; buffer = take 4 (drop 12 q) ++ take 4 (drop 16 q) ++ ports ++ (protocol q ∷ []) }))))

-- "Where the fragment offset .. is not zero, ports are zero and 11 is not given": the whole answer; then each of the two by itself
abbrev pub LaterAnswer : Type 0
LaterAnswer =
    (q buffer : List ℕ) → fragment_offset q ≢ 0
    → read_packet q buffer
    ≡ cond (not (eqb (length buffer) ipv4_width)) (record { number = 3; buffer = buffer })
    (cond (header_wrong q) (record { number = 10; buffer = buffer })
    (record { number = 0; buffer = take 4 (drop 12 q) ++ take 4 (drop 16 q) ++ (0 ∷ 0 ∷ 0 ∷ 0 ∷ []) ++ (protocol q ∷ []) }))

abbrev pub LaterNeverCut : Type 0
LaterNeverCut = (q buffer : List ℕ) → fragment_offset q ≢ 0 → (read_packet q buffer).number ≢ 11

abbrev pub LaterPortsZero : Type 0
LaterPortsZero =
    (q buffer : List ℕ) → fragment_offset q ≢ 0 → (read_packet q buffer).number ≡ 0
    → take 4 (drop 8 (read_packet q buffer).buffer) ≡ 0 ∷ 0 ∷ 0 ∷ 0 ∷ []

-- the flags, 'more fragments' among them, are the high three bits of byte 6: with any others there the answer is the same
abbrev pub FlagsNotRead : Type 0
FlagsNotRead = (q buffer : List ℕ) (b : ℕ) → b % 32 ≡ get_or q 6 0 % 32 → read_packet (set q 6 b) buffer ≡ read_packet q buffer
