-- A table that is lent for keys of some width, and what it gives for a key, document 01, 'Hash', and document 02, U7.
use Rattle.std.specs.Prelude.{◌≡◌, cond, List, [], ◌∷◌, ℕ, suc, ◌+◌, ◌*◌, ◌/◌, ◌%◌, ◌^◌, eqb, length, get_or}
use Rattle.std.specs.Int.Bits.{bit_xor}
use Rattle.theory.specs.Lists.{flat}
use Rattle.theory.specs.Hash.{if_set}
use Rattle.theory.specs.Settings.{ipv6_width}
use Rattle.hash.specs.Digits.{TableRight, table_length, table_entries}

-- the lengths that a lent table may have for keys of w bytes: 3,328 at 13; 1,184, by half-byte, or 9,472, by byte, at 37
unfoldable pub table_lengths : ℕ → List ℕ
table_lengths w = cond (eqb w ipv6_width) (table_length 4 (2 * w) ∷ table_length 8 w ∷ []) (table_length 8 w ∷ [])

-- a lent table is right for keys of w bytes: its length says whether it has an entry for each value of a byte or of a half-byte
pub record TableFor (w : ℕ) (t : List ℕ) : Type 0 where
  pub by_byte : length t ≡ table_length 8 w → TableRight 8 w t
  pub by_half : length t ≡ table_length 4 (2 * w) → TableRight 4 (2 * w) t

-- the right table of n entries for keys of w bytes
unfoldable pub lent_table : ℕ → ℕ → List ℕ
lent_table w n = cond (eqb n (table_length 8 w)) (table_entries 8 w) (table_entries 4 (2 * w))

-- the half-bytes of a key, the low four bits of each byte first
unfoldable pub halves : List ℕ → List ℕ
halves key = flat (λ v. v % 16 ∷ v / 16 ∷ []) key

-- "the same H with one read a byte", or two: what a table gives for digits of some number of bits, the first of which is digit a,
-- the xor of the entries that are read, whatever the table holds
unfoldable pub H_by_from : ℕ → List ℕ → ℕ → List ℕ → ℕ
H_by_from bits t a [] = 0
H_by_from bits t a (d ∷ ds) = bit_xor (get_or t (a * 2 ^ bits + d) 0) (H_by_from bits t (suc a) ds)

unfoldable pub H_by : List ℕ → List ℕ → ℕ
H_by t key = cond (eqb (length t) (table_length 8 (length key))) (H_by_from 8 t 0 key) (H_by_from 4 t 0 (halves key))

-- the xor of the listed rows whose bits are set in v; the first row belongs to bit 0
unfoldable pub xor_set : List ℕ → ℕ → ℕ
xor_set [] v = 0
xor_set (r ∷ rs) v = bit_xor (if_set (v % 2) r) (xor_set rs (v / 2))
