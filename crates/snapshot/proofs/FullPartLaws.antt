-- Laws of a list whose n records fill a part: its bytes, the records of a ledger as such a part, and its placement.
use mathlib.Core.Path.{◌≡◌, ◌∙◌}
use mathlib.Core.Bool.{false}
use mathlib.Core.List.{List, [], append-nil}
use Prim.Native.Nat.{ℕ, ◌+◌, ◌-◌, ◌*◌, ◌≤◌}
use native.Mathlib.Nat.{zero-div, mul_comm}
use native.Mathlib.Omega.{arith}
use lib.ListN.{length, take, drop}
use lib.Seq.{take_all, length-take-le}
use Rattle.theory.specs.Lists.{flat}
use Rattle.theory.specs.Settings.{Card, record_size, ledger_length}
use Rattle.theory.specs.Records.{count_of, entries, record_bytes, records}
use Rattle.theory.specs.Calls.{ledger_records, ledger_invalid}
use Rattle.theory.proofs.ListLaws.{All}
use Rattle.theory.proofs.ByteLaws.{Byte, write_records}
use Rattle.ledger.proofs.LedgerLaws.{room_for, records_room, records_are}
use Rattle.ledger.proofs.LedgerEditLaws.{few}
use Rattle.placing.specs.Worked.{held, parts}
use Rattle.placing.proofs.PartLaws.{held_front, front_records}

pub held_none : (w : ℕ) → held w [] ≡ 0
held_none w = zero-div (w + 4)

module _ (w n : ℕ) (list : List ℕ) (full : length list ≡ n * (w + 4)) where
  pub held_full : held w list ≡ n
  held_full =
      let all : take (n * (w + 4)) list ≡ list = take_all (n * (w + 4)) list (omega (arith, full)) in
      rw all at (held_front w n list (omega (arith, full)))

  -- with two parts after it that are empty
  pub alone : parts w list (held w list) [] (held w []) [] (held w []) ≡ records w n list
  unfolding records entries
  alone = rw (held_full, held_none w) (append-nil (records w n list))

  pub full_bytes : All Byte list → flat record_bytes (records w n list) ≡ list
  full_bytes bytes =
      let fits : n * (w + 4) ≤ length list = omega (arith, full) in
      write_records w n list fits bytes ∙ take_all (n * (w + 4)) list (omega (arith, full))

-- ---- the records of a ledger area within the rules, by its count n and the size of a record
module _ (c : Card) (a : List ℕ) (whole : length a ≡ ledger_length c) (valid : ledger_invalid c a ≡ false) {n size : ℕ} (count : n ≡ count_of a)
    (sized : size ≡ record_size c) where
  pub many : n ≤ c.capacity
  many = omega (arith, count, few c a whole valid)

  pub list_within : 2 + size * n ≤ length a
  list_within = rw sized (room_for c a whole n many)

  list_bytes : 2 + size * n - 2 ≡ n * (c.width + 4)
  unfolding record_size
  list_bytes = rw sized (omega (arith, mul_comm (c.width + 4) n))

  pub list_full : length (take (2 + size * n - 2) (drop 2 a)) ≡ n * (c.width + 4)
  list_full = rw list_bytes (length-take-le (n * (c.width + 4)) (drop 2 a) (records_room c a whole n many))

  pub list_is : records c.width n (take (2 + size * n - 2) (drop 2 a)) ≡ ledger_records c a
  list_is = rw list_bytes (front_records c.width n (drop 2 a) (records_room c a whole n many)) ∙ records_are c a n count
