-- The part of record i of the n that an area holds, where size and width are a card's: it lies inside, and which bytes it is.
use mathlib.Core.Path.{◌≡◌, refl}
use mathlib.Core.List.{List, ◌++◌}
use Prim.Native.Nat.{ℕ, ◌+◌, ◌-◌, ◌*◌, ◌≤◌, ◌<◌}
use native.Mathlib.Omega.{arith}
use lib.ListN.{length, take, drop, length-append}
use lib.Seq.{take_at}
use Rattle.theory.specs.Records.{to_bytes, record_bytes}
use Rattle.theory.specs.Settings.{Card, record_size}
use Rattle.memory.proofs.SliceLaws.{back, tail_back, length_part, row_fits}

pub record Sizes (s : Card) (size width : ℕ) : Type 0 where
  pub size_is : size ≡ record_size s
  pub width_is : width ≡ s.width

module _ {s : Card} {size width : ℕ} (sizes : Sizes s size width) (n i : ℕ) (area : List ℕ) (fits : n * (s.width + 4) ≤ length area) (more : i < n) where
  pub record_inside : i * size + size ≤ length area
  unfolding record_size
  record_inside = rw sizes.size_is (omega (arith, row_fits i n (s.width + 4) more))

  pub key_inside : i * size + width ≤ length area
  unfolding record_size
  key_inside = rw (sizes.size_is, sizes.width_is) (omega (arith, row_fits i n (s.width + 4) more))

  pub key_length : length (take width (drop (i * size) area)) ≡ s.width
  key_length = rw (length_part (i * size) width area key_inside) sizes.width_is

pub key_is : {s : Card} {size width : ℕ} → Sizes s size width → (i : ℕ) (area : List ℕ)
    → take width (drop (i * size) area) ≡ take s.width (drop (i * (s.width + 4)) area)
unfolding record_size
key_is sizes i area = rw (sizes.size_is, sizes.width_is)

-- a record: the key copied to the front, then the class in what is left
pub record_written : (to key : List ℕ) (n : ℕ) (front end : List ℕ) → length to ≡ length key + 4 → front ≡ key → end ≡ to_bytes 4 n
    → back (length key) (length (front ++ drop (length key) to) - length key) (front ++ drop (length key) to) end
    ≡ record_bytes (record { key = key; class = n })
unfolding record_bytes
record_written to key n front end size e f =
    rw (e, f, tail_back (length key) (key ++ drop (length key) to) (to_bytes 4 n) (rw length-append (omega arith)))
    (rw (take_at key (drop (length key) to) (length key) refl))
