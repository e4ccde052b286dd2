-- A table for keys cut into digits of some number of bits: an entry for each position and value of a digit.
-- The constant table of document 01, 'Hash', has digits of 8 bits, the bytes of the key.
use Rattle.std.specs.Prelude.{◌≡◌, List, map, ℕ, ◌+◌, ◌*◌, ◌^◌, ◌<◌, get_or}
use Rattle.theory.specs.Lists.{flat, upto}
use Rattle.theory.specs.Hash.{rows_of}

-- "its entries follow the rows": entry a * 2^bits + v is the xor of the rows of the set bits of value v at position a, whose rows are those from bits * a on
pub record TableRight (bits places : ℕ) (t : List ℕ) : Type 0 where
  pub entry : (a v : ℕ) → a < places → v < 2 ^ bits → get_or t (a * 2 ^ bits + v) 0 ≡ rows_of bits (bits * a) v

-- "an entry for each of 13 byte positions and 256 byte values", there with 8 bits and 13 places: how many entries
abbrev pub table_length : ℕ → ℕ → ℕ
table_length bits places = places * 2 ^ bits

-- and the entries: those of position a, and all
unfoldable pub table_entries_at : ℕ → ℕ → List ℕ
table_entries_at bits a = map (λ v. rows_of bits (bits * a) v) (upto 0 (2 ^ bits))

unfoldable pub table_entries : ℕ → ℕ → List ℕ
table_entries bits places = flat (table_entries_at bits) (upto 0 places)
