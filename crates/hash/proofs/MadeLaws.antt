-- Laws of the table that a call makes: the constant table by byte, and the table by half-byte in front of anything, are right for their width.
use mathlib.Core.Path.{◌≡◌, refl, sym, ◌∙◌}
use mathlib.Core.Bool.{true}
use mathlib.Core.List.{List}
use Prim.Native.Nat.{ℕ, ◌*◌}
use native.Mathlib.Omega.{arith}
use lib.ListN.{length}
use lib.Seq.{take_all}
use Rattle.theory.specs.Lists.{has}
use Rattle.theory.specs.Settings.{ipv4_width, ipv6_width}
use Rattle.hash.specs.Digits.{TableRight, table_length}
use Rattle.hash.specs.Table.{table_lengths, TableFor}
use Rattle.hash.specs.Made.{made_length, MadeFor}
use Rattle.hash.proofs.LentTableLaws.{byte_length_allowed, half_length_allowed, table_for, half_table_for}

pub length_by_byte : {w : ℕ} → w ≡ ipv4_width → made_length w ≡ table_length 8 ipv4_width
unfolding made_length
length_by_byte e = rw e

pub length_by_half : {w : ℕ} → w ≡ ipv6_width → made_length w ≡ table_length 4 (2 * ipv6_width)
unfolding made_length
length_by_half e = rw e

-- the whole of a right table of that length
made_for : {w : ℕ} (t : List ℕ) → length t ≡ made_length w → has (made_length w) (table_lengths w) ≡ true → TableFor w t → MadeFor w t
made_for {w} t whole long right =
    record { within = omega arith; long = long; right = rw (take_all (made_length w) t (omega arith)) right }

pub made_by_byte : {w : ℕ} (t : List ℕ) → w ≡ ipv4_width → length t ≡ table_length 8 ipv4_width → TableRight 8 ipv4_width t → MadeFor w t
made_by_byte {w} t narrow whole right =
    let n = length_by_byte narrow in
    made_for t (whole ∙ sym n) (rw (n, narrow) (byte_length_allowed (table_length 8 ipv4_width) ipv4_width refl)) (rw narrow (table_for ipv4_width t right whole))

pub made_by_half : {w : ℕ} (t : List ℕ) → w ≡ ipv6_width → length t ≡ table_length 4 (2 * ipv6_width) → TableRight 4 (2 * ipv6_width) t → MadeFor w t
made_by_half {w} t wide whole right =
    let n = length_by_half wide in
    made_for t (whole ∙ sym n) (rw (n, wide) (half_length_allowed (table_length 4 (2 * ipv6_width)) refl)) (rw wide (half_table_for ipv6_width t right whole))
