-- A ledger area of its length: where its records lie, and what its rules come to in the order in which the code judges them.
use mathlib.Core.Path.{◌≡◌, ◌∙◌}
use mathlib.Core.Bool.{true, false, not, ◌||◌}
use mathlib.Core.List.{List}
use Prim.Native.Nat.{ℕ, ◌+◌, ◌-◌, ◌*◌, ◌≤◌, ◌<◌}
use native.Mathlib.Nat.{mul_comm, mul-le-mul, mul-le-mul_right}
use native.Mathlib.Omega.{arith}
use lib.Dec.{eqb, ltb}
use borrow.Author.Tests.{lt-ltb, le-ltb}
use lib.ListN.{length, take, drop, length-drop}
use Rattle.theory.specs.Lists.{any}
use Rattle.theory.specs.Records.{count_of, records, rising}
use Rattle.theory.specs.Settings.{Card, allowed, card_of, record_size, ledger_length}
use Rattle.theory.specs.Calls.{ledger_records, ledger_invalid}
use Rattle.theory.proofs.CallLaws.{valid}
use Rattle.theory.proofs.SettingsLaws.{ranges}
use Rattle.memory.proofs.SliceLaws.{tail_is}
use Rattle.settings.specs.declared.Settings.{Settings}
use Rattle.settings.specs.Checked.{paper, card}
use Rattle.settings.proofs.Laws.{bounds}

module _ (c : Card) (a : List ℕ) where
  -- ---- its length
  module _ (size : length a ≡ ledger_length c) where
    pub has_count : 2 ≤ length a
    unfolding ledger_length
    has_count = omega (arith, size)

    pub room_for : (n : ℕ) → n ≤ c.capacity → 2 + record_size c * n ≤ length a
    unfolding ledger_length
    room_for n h = omega (arith, size, mul_comm (record_size c) n, mul_comm (record_size c) c.capacity, mul-le-mul_right (record_size c) h)

    pub records_room : (n : ℕ) → n ≤ c.capacity → n * (c.width + 4) ≤ length (drop 2 a)
    unfolding record_size
    records_room n h = rw length-drop (omega (arith, room_for n h, mul_comm (c.width + 4) n))

    -- its keys rise, as they are judged in the part after the count
    pub rises_lent : (w n : ℕ) → w ≡ c.width → rising (records w n (take (length a - 2) (drop 2 a))) ≡ rising (records c.width n (drop 2 a))
    rises_lent w n e = rw (tail_is 2 a has_count, e)

  -- ---- its rules, where n is its count
  module _ (n : ℕ) (count : n ≡ count_of a) where
    rules : ledger_invalid c a
        ≡ (ltb c.capacity n || not (rising (records c.width n (drop 2 a))) || any (λ x. not (eqb x 0)) (drop (2 + record_size c * n) a))
    unfolding ledger_invalid ledger_records
    rules = rw count

    pub invalid_many : c.capacity < n → ledger_invalid c a ≡ true
    invalid_many h = rules ∙ rw (lt-ltb c.capacity n h)

    module _ (few : n ≤ c.capacity) where
      pub invalid_order : rising (records c.width n (drop 2 a)) ≡ false → ledger_invalid c a ≡ true
      invalid_order e = rules ∙ rw (le-ltb c.capacity n few, e)

      pub invalid_after : rising (records c.width n (drop 2 a)) ≡ true → ledger_invalid c a ≡ any (λ x. not (eqb x 0)) (drop (2 + record_size c * n) a)
      invalid_after e = rules ∙ rw (le-ltb c.capacity n few, e)

    -- its records, as a search among the places after the count has them
    pub records_are : records c.width n (drop 2 a) ≡ ledger_records c a
    unfolding ledger_records
    records_are = rw count

    pub records_rise : ledger_invalid c a ≡ false → rising (records c.width n (drop 2 a)) ≡ true
    records_rise rules = rw records_are (valid c a rules).order

-- ---- so many bytes as its records have at most
pub places_most : (s : Settings) (size n : ℕ) → allowed (paper s) ≡ true → n ≤ (card s).capacity → size ≡ record_size (card s) → size * n ≤ 41 * 4096
unfolding card_of
places_most s size n permitted few e =
    let many : n ≤ 4096 = omega (arith, few, (ranges (paper s) permitted).capacity_high) in
    rw e (mul-le-mul (bounds (paper s) permitted).record_most many)
