-- The table that a call makes once, for keys of its width.
use Rattle.std.specs.Prelude.{◌≡◌, true, cond, List, ℕ, ◌*◌, ◌≤◌, eqb, length, take}
use Rattle.theory.specs.Lists.{has}
use Rattle.theory.specs.Settings.{ipv4_width}
use Rattle.hash.specs.Digits.{table_length}
use Rattle.hash.specs.Table.{table_lengths, TableFor}

-- how many entries it has: by byte for keys of 13 bytes, by half-byte for others
unfoldable pub made_length : ℕ → ℕ
made_length w = cond (eqb w ipv4_width) (table_length 8 w) (table_length 4 (2 * w))

-- the front of an array is a right table for keys of w bytes, of an allowed length
pub record MadeFor (w : ℕ) (t : List ℕ) : Type 0 where
  pub within : made_length w ≤ length t
  pub long : has (made_length w) (table_lengths w) ≡ true
  pub right : TableFor w (take (made_length w) t)
