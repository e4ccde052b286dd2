-- Clipped counts, two to a byte, over a free top count and a free number of bytes.
use Rattle.std.specs.Prelude.{List, map, ℕ, ◌+◌, ◌*◌, min}
use Rattle.theory.specs.Lists.{upto}

-- byte i, of counts c: bucket 2 i in the low four bits, bucket 2 i + 1 in the high ones
unfoldable pub clipped_byte : ℕ → (ℕ → ℕ) → ℕ → ℕ
clipped_byte top c i = min (c (2 * i)) top + 16 * min (c (2 * i + 1)) top

unfoldable pub clipped_bytes : ℕ → (ℕ → ℕ) → ℕ → List ℕ
clipped_bytes top c n = map (clipped_byte top c) (upto 0 n)
