-- The turn of one record of an area: its bytes lie inside, and they are the record as it is written.
use mathlib.Core.Path.{◌≡◌}
use mathlib.Core.List.{List}
use Prim.Native.Nat.{ℕ, ◌+◌, ◌*◌, ◌≤◌, ◌<◌}
use native.Mathlib.Nat.{mul-le-mul_right}
use native.Mathlib.Omega.{arith}
use lib.ListN.{length, take, drop, length-drop}
use Rattle.theory.specs.Records.{record_bytes, record_at, records}
use Rattle.theory.proofs.ListLaws.{All, all_drop}
use Rattle.theory.proofs.ByteLaws.{Byte, Fit, records_fit, write_record}
use Rattle.memory.proofs.SliceLaws.{length_part, row_fits}

-- ---- the turn of record i of the n in an area of bytes, with keys of w bytes
pub record Turn (w n i : ℕ) (area : List ℕ) : Type 0 where
  pub wide : n * (w + 4) ≤ length area
  pub below : i < n
  pub octets : All Byte area

module _ {w n i : ℕ} {area : List ℕ} (h : Turn w n i area) where
  pub turn_within : i * (w + 4) + (w + 4) ≤ length area
  turn_within = omega (arith, row_fits i n (w + 4) h.below)

  -- and by the code's number of the bytes of a record
  pub turn_inside : (size : ℕ) → size ≡ w + 4 → i * size + size ≤ length area
  turn_inside size e = rw e turn_within

  pub turn_bytes : length (take (w + 4) (drop (i * (w + 4)) area)) ≡ w + 4
  turn_bytes = length_part (i * (w + 4)) (w + 4) area turn_within

  pub turn_record : record_bytes (record_at w (drop (i * (w + 4)) area)) ≡ take (w + 4) (drop (i * (w + 4)) area)
  turn_record =
      write_record w (drop (i * (w + 4)) area) (rw length-drop (omega (arith, turn_within))) (all_drop Byte (i * (w + 4)) area h.octets)

  pub turn_fit : (k : ℕ) → k ≤ n → All (Fit w) (records w k area)
  turn_fit k le = records_fit w k area (omega (arith, mul-le-mul_right (w + 4) le)) h.octets
