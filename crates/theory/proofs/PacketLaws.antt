-- Laws of a packet's key: what a header that is not refused has, and document 02's U2, the fragment offset, and U7, an IPv6 packet.
use mathlib.Core.Path.{◌≡◌, refl, ap, ◌∙◌}
use mathlib.Core.Logic.{◌≢◌}
use mathlib.Core.Bool.{Bool, false, not, ◌||◌}
use mathlib.Core.List.{List, [], ◌∷◌, ◌++◌, append_assoc}
use Prim.Native.Nat.{ℕ, ◌+◌, ◌*◌, ◌%◌, ◌≤◌, ◌<◌}
use native.Mathlib.Omega.{arith}
use lib.Dec.{ltb, eqb}
use lib.ListN.{length, take, drop, get_or, set, length-set, length-append, length-take, length-drop}
use lib.Seq.{get_or-set_same, get_or-set_other, drop-set-lt, get_or-drop, length-take-le, take_at, drop_at}
use borrow.Author.Tests.{ltb-false, eq-eqb, ne_eqb}
use Rattle.theory.specs.Records.{of_bytes}
use Rattle.theory.specs.Packet.{version, header_length, protocol, fragment_offset, has_ports, header_wrong, after_header}
use Rattle.theory.specs.Packet.{ports_cut, ports, packet_key, reading, read_packet, Reading, keyed}
use Rattle.theory.specs.Packet6.{next_header, header6_wrong, has_ports6, ports6_cut, ports6, packet6_key, reading6, read_packet6}
use Rattle.theory.specs.Packet6.{RefusedPacket6, Key6Width, PayloadLengthNotRead, OtherPortsZero, OtherNeverCut}
use Rattle.theory.specs.Fragments.{FirstAsBefore, LaterAnswer, LaterNeverCut, LaterPortsZero, FlagsNotRead}
use Rattle.theory.proofs.ByteLaws.{count_is}
use Rattle.theory.proofs.ListLaws.{by_test, or_left, or_right}

-- ---- the answer to any packet, by what is read of it
pub record Accepted (r : Reading) (buffer : List ℕ) : Type 0 where
  pub wrong : r.wrong ≡ false
  pub cut : r.cut ≡ false
  pub written : (keyed r buffer).buffer ≡ r.key

module _ (r : Reading) (buffer : List ℕ) where
  abbrev other_width : Bool
  other_width = not (eqb (length buffer) r.width)

  refused_kept : (keyed r buffer).number ≢ 0 → (keyed r buffer).buffer ≡ buffer
  refused_kept =
      by_test other_width (λ e. rw e (λ f. refl))
      (λ e. rw e (by_test r.wrong (λ e. rw e (λ f. refl)) (λ e. rw e (by_test r.cut (λ e. rw e (λ f. refl)) (λ e. rw e (λ f. absurd (f refl)))))))

  never_cut : r.cut ≡ false → r.header_number ≢ 11 → (keyed r buffer).number ≢ 11
  never_cut whole other =
      rw whole
      (by_test other_width (λ e. rw e (λ f. absurd (omega arith)))
      (λ e. rw e (by_test r.wrong (λ e. rw e other) (λ e. rw e (λ f. absurd (omega arith))))))

  accepted : r.header_number ≢ 0 → (keyed r buffer).number ≡ 0 → Accepted r buffer
  accepted some zero =
      by_test other_width (λ e. absurd (omega (arith, rw e at zero)))
      (λ wide. by_test r.wrong (λ e. absurd (some (rw (wide, e) at zero)))
      (λ right. by_test r.cut (λ e. absurd (omega (arith, rw (wide, right, e) at zero)))
      (λ whole. record { wrong = right; cut = whole; written = rw (wide, right, whole) })))

-- the ports stand behind two addresses of w bytes
behind_addresses : (w : ℕ) (source destination four rest : List ℕ) → length source ≡ w → length destination ≡ w → length four ≡ 4
    → take 4 (drop (w + w) (source ++ destination ++ four ++ rest)) ≡ four
behind_addresses w source destination four rest source_long destination_long is-four =
    let both : length (source ++ destination) ≡ w + w = rw length-append (omega arith) in
    ap (λ (key : List ℕ). take 4 (drop (w + w) key)) (append_assoc (source ++ destination) four rest)
    ∙ ap (take 4) (drop_at (source ++ destination) (four ++ rest) (w + w) both) ∙ take_at four rest 4 is-four

-- ---- a header that is not wrong
module _ (q : List ℕ) (right : header_wrong q ≡ false) where
  abbrev short : Bool
  short = ltb (length q) 20

  abbrev other : Bool
  other = not (eqb (version q) 4)

  abbrev small : Bool
  small = ltb (header_length q) 20

  abbrev beyond : Bool
  beyond = ltb (length q) (header_length q)

  pub fixed_there : 20 ≤ length q
  unfolding header_wrong
  fixed_there = ltb-false (length q) 20 (or_left short other (or_left (short || other) small (or_left (short || other || small) beyond right)))

  pub header_least : 20 ≤ header_length q
  unfolding header_wrong
  header_least = ltb-false (header_length q) 20 (or_right (short || other) small (or_left (short || other || small) beyond right))

  pub header_within : header_length q ≤ length q
  unfolding header_wrong
  header_within = ltb-false (length q) (header_length q) (or_right (short || other || small) beyond right)

-- ---- offset zero
pub first_as_before : FirstAsBefore
unfolding read_packet ports_cut ports packet_key has_ports
first_as_before q buffer zero = rw (eq-eqb (fragment_offset q) 0 zero)

-- ---- another offset
no_ports : (q : List ℕ) → fragment_offset q ≢ 0 → has_ports q ≡ false
unfolding has_ports
no_ports q later = rw (ne_eqb (fragment_offset q) 0 later)

pub later_answer : LaterAnswer
unfolding read_packet ports_cut ports packet_key
later_answer q buffer later = rw (no_ports q later)

later_whole : (q : List ℕ) → fragment_offset q ≢ 0 → ports_cut q ≡ false
unfolding ports_cut
later_whole q later = rw (no_ports q later)

pub later_never_cut : LaterNeverCut
unfolding read_packet
later_never_cut q buffer later = never_cut (reading q) buffer (later_whole q later) (omega arith)

pub later_ports_zero : LaterPortsZero
unfolding read_packet packet_key ports
later_ports_zero q buffer later zero =
    let told = accepted (reading q) buffer (omega arith) zero in
    let long : 20 ≤ length q = fixed_there q told.wrong in
    rw (told.written, no_ports q later)
    (behind_addresses 4 (take 4 (drop 12 q)) (take 4 (drop 16 q)) (0 ∷ 0 ∷ 0 ∷ 0 ∷ []) (protocol q ∷ [])
    (simp (length-take, length-drop) (omega arith)) (simp (length-take, length-drop) (omega arith)) refl)

-- ---- other flags, the high three bits of byte 6: the offset by its two bytes
offset_is : (q : List ℕ) → 20 ≤ length q → of_bytes (take 2 (drop 6 q)) ≡ get_or q 6 0 * 256 + get_or q 7 0
offset_is q long = count_is (drop 6 q) (rw length-drop (omega arith)) ∙ rw (get_or-drop 6 q 0 0, get_or-drop 6 q 1 0)

-- what is read of a packet whose byte 6 is another
module _ (q : List ℕ) (b : ℕ) where
  byte_kept : (i : ℕ) → i ≢ 6 → get_or (set q 6 b) i 0 ≡ get_or q i 0
  byte_kept i other = get_or-set_other q 6 i b 0 other

  header_length_kept : header_length (set q 6 b) ≡ header_length q
  unfolding header_length
  header_length_kept = rw (byte_kept 0 (omega arith))

  header_wrong_kept : header_wrong (set q 6 b) ≡ header_wrong q
  unfolding header_wrong version
  header_wrong_kept = rw (length-set q 6 b, byte_kept 0 (omega arith), header_length_kept)

  protocol_kept : protocol (set q 6 b) ≡ protocol q
  unfolding protocol
  protocol_kept = byte_kept 9 (omega arith)

  module _ (right : header_wrong q ≡ false) where
    after_header_kept : after_header (set q 6 b) ≡ after_header q
    unfolding after_header
    after_header_kept = rw header_length_kept (drop-set-lt (header_length q) q 6 b (omega (arith, header_least q right)))

    offset_kept : b % 32 ≡ get_or q 6 0 % 32 → fragment_offset (set q 6 b) ≡ fragment_offset q
    unfolding fragment_offset
    offset_kept same =
        let long : 20 ≤ length (set q 6 b) = rw length-set (fixed_there q right) in
        rw (offset_is (set q 6 b) long, offset_is q (fixed_there q right), get_or-set_same q 6 b 0 (omega (arith, fixed_there q right)), byte_kept 7 (omega arith))
        (omega arith)

pub flags_not_read : FlagsNotRead
unfolding read_packet ports_cut ports packet_key has_ports
flags_not_read q buffer b same =
    rw (header_wrong_kept q b)
    (by_test (header_wrong q) (λ e. rw e)
    (λ e. rw (e, offset_kept q b e same, after_header_kept q b e, protocol_kept q b, drop-set-lt 12 q 6 b (omega arith), drop-set-lt 16 q 6 b (omega arith))))

-- ---- IPv6
pub header6_there : (q : List ℕ) → header6_wrong q ≡ false → 40 ≤ length q
unfolding header6_wrong
header6_there q right = ltb-false (length q) 40 (or_left (ltb (length q) 40) (not (eqb (version q) 6)) right)

pub refused_packet6 : RefusedPacket6
unfolding read_packet6
refused_packet6 q buffer = refused_kept (reading6 q) buffer

ports6_four : (q : List ℕ) → ports6_cut q ≡ false → length (ports6 q) ≡ 4
unfolding ports6_cut ports6
ports6_four q whole =
    by_test (has_ports6 q) (λ e. rw e (length-take-le 4 (drop 40 q) (ltb-false (length (drop 40 q)) 4 (rw e at whole)))) (λ e. rw e)

pub key6_width : Key6Width
unfolding read_packet6 packet6_key
key6_width q buffer zero =
    let told = accepted (reading6 q) buffer (omega arith) zero in
    rw told.written
    (simp (length-append, length-take, length-drop, ports6_four q told.cut) (omega (arith, header6_there q told.wrong)))

-- ---- another next header
other_none : (q : List ℕ) → next_header q ≢ 6 → next_header q ≢ 17 → has_ports6 q ≡ false
unfolding has_ports6
other_none q no-6 no-17 = rw (ne_eqb (next_header q) 6 no-6, ne_eqb (next_header q) 17 no-17)

other_whole : (q : List ℕ) → has_ports6 q ≡ false → ports6_cut q ≡ false
unfolding ports6_cut
other_whole q none = rw none

pub other_never_cut : OtherNeverCut
unfolding read_packet6
other_never_cut q buffer no-6 no-17 = never_cut (reading6 q) buffer (other_whole q (other_none q no-6 no-17)) (omega arith)

pub other_ports_zero : OtherPortsZero
unfolding read_packet6 packet6_key ports6
other_ports_zero q buffer no-6 no-17 zero =
    let told = accepted (reading6 q) buffer (omega arith) zero in
    let long : 40 ≤ length q = header6_there q told.wrong in
    rw (told.written, other_none q no-6 no-17)
    (behind_addresses 16 (take 16 (drop 8 q)) (take 16 (drop 24 q)) (0 ∷ 0 ∷ 0 ∷ 0 ∷ []) (next_header q ∷ [])
    (simp (length-take, length-drop) (omega arith)) (simp (length-take, length-drop) (omega arith)) refl)

-- ---- of the bytes before the addresses, the first and the next header are read
before_addresses : (q buffer : List ℕ) (i b : ℕ) → i ≢ 0 → i ≢ 6 → i < 8 → read_packet6 (set q i b) buffer ≡ read_packet6 q buffer
unfolding read_packet6 header6_wrong version ports6_cut ports6 packet6_key has_ports6 next_header
before_addresses q buffer i b not_first not-next early =
    rw (
      length-set q i b,
      get_or-set_other q i 0 b 0 (omega arith),
      get_or-set_other q i 6 b 0 (omega arith),
      drop-set-lt 8 q i b early,
      drop-set-lt 24 q i b (omega arith),
      drop-set-lt 40 q i b (omega arith),
    )

pub payload_length_not_read : PayloadLengthNotRead
payload_length_not_read q buffer a b =
    before_addresses (set q 4 a) buffer 5 b (omega arith) (omega arith) (omega arith)
    ∙ before_addresses q buffer 4 a (omega arith) (omega arith) (omega arith)
