-- Laws of a scan of records: what is left of it finds and compares what the whole does.
use mathlib.Core.Path.{◌≡◌, refl, sym, ap, ◌∙◌}
use mathlib.Core.Bool.{Bool, true, false, cond}
use mathlib.Core.List.{List}
use mathlib.Core.Option.{none, some}
use Prim.Native.Nat.{ℕ, suc, ◌+◌, ◌-◌, ◌*◌, ◌≤◌, ◌<◌}
use native.Mathlib.Nat.{add-zero, zero-add, zero-mul, sub-zero}
use native.Mathlib.Omega.{arith}
use lib.Dec.{ltb}
use borrow.Author.Tests.{lt-ltb, le-ltb, ltb-true, ltb-false}
use lib.ListN.{length, take, drop}
use lib.Seq.{drop-drop}
use Rattle.theory.specs.Records.{entries, record_at, records, same_key, find, comparisons}
use Rattle.theory.proofs.ListLaws.{by_test}
use Rattle.memory.proofs.SliceLaws.{row_fits}
use Rattle.ledger.proofs.RisingLaws.{records_next}
use Rattle.std.specs.Prelude.{None, Some}
use Rattle.lookup.specs.Scanning.{Scannable, AllScannable, IsPlaceOf}

-- ---- from the first on: i were compared and have another key
pub record Scanning (k : List ℕ) (n : ℕ) (a : List ℕ) (i : ℕ) : Type 0 where
  pub finds : find k (records (length k) (n - i) (drop (i * (length k + 4)) a)) ≡ find k (records (length k) n a)
  pub compares : i + comparisons k (records (length k) (n - i) (drop (i * (length k + 4)) a)) ≡ comparisons k (records (length k) n a)

-- one record is four bytes longer than its key
next_off : (i j w : ℕ) (a : List ℕ) → j ≡ i + 1 → drop (w + 4) (drop (i * (w + 4)) a) ≡ drop (j * (w + 4)) a
next_off i j w a e =
    let off : i * (w + 4) + (w + 4) ≡ j * (w + 4) = rw e (omega arith) in drop-drop (w + 4) (i * (w + 4)) a ∙ ap (λ (x : ℕ). drop x a) off

module _ {k : List ℕ} {n : ℕ} {a : List ℕ} where
  -- record i is inside
  pub record_inside : Scannable a n k → (i : ℕ) → i < n → i * (length k + 4) + (length k + 4) ≤ length a
  record_inside p i h = omega (arith, row_fits i n (length k + 4) h, p.fits)

  pub scanning_start : Scanning k n a 0
  scanning_start = record { finds = rw (zero-mul, sub-zero); compares = rw (zero-mul, sub-zero, zero-add) }

  module _ {i : ℕ} (g : Scanning k n a i) where
    pub scanning_end : i ≡ n → IsPlaceOf k n a None
    unfolding records entries
    scanning_end e =
        let z : n - i ≡ 0 = omega arith in
        record { finds = sym (rw z at g.finds); compares = sym (rw (z, add-zero) at g.compares) ∙ e; few = tt }

    module _ (p : i < n) where
      left : 0 < n - i
      left = omega arith

      pub scanning_hit : same_key k (take (length k) (drop (i * (length k + 4)) a)) ≡ true → IsPlaceOf k n a (Some i)
      unfolding record_at
      scanning_hit e =
          record {
            finds = sym (rw (records_next (length k) (n - i) (drop (i * (length k + 4)) a) left, e) at g.finds);
            compares = sym (rw (records_next (length k) (n - i) (drop (i * (length k + 4)) a) left, e) at g.compares);
            few = p;
          }

      pub scanning_on : same_key k (take (length k) (drop (i * (length k + 4)) a)) ≡ false → Scanning k n a (i + 1)
      unfolding record_at
      scanning_on e =
          let less : n - i - 1 ≡ n - (i + 1) = omega arith in
          let off : drop (length k + 4) (drop (i * (length k + 4)) a) ≡ drop ((i + 1) * (length k + 4)) a = next_off i (i + 1) (length k) a refl in
          record {
            finds = rw (← less, ← off) (rw (records_next (length k) (n - i) (drop (i * (length k + 4)) a) left, e) at g.finds);
            compares = rw (← less, ← off) (move _ (rw (records_next (length k) (n - i) (drop (i * (length k + 4)) a) left, e) at g.compares));
          }
        where
          move : (x : ℕ) → i + suc x ≡ comparisons k (records (length k) n a) → i + 1 + x ≡ comparisons k (records (length k) n a)
          move x q = omega arith

-- ---- from the last to the first, all places: of those from `left` on, the first that has the key, or no place
pub record First (k : List ℕ) (n : ℕ) (a : List ℕ) (room left first : ℕ) : Type 0 where
  pub low : left ≤ first
  pub high : first ≤ room
  pub finds : find k (records (length k) (n - left) (drop (left * (length k + 4)) a))
      ≡ cond (ltb first n) (some (record_at (length k) (drop (first * (length k + 4)) a))) none
  pub compares : comparisons k (records (length k) (n - left) (drop (left * (length k + 4)) a)) ≡ cond (ltb first n) (suc first) n - left

-- place i is among the first n, or no record is left there
some_left : (i n : ℕ) → ltb i n ≡ true → 0 < n - i
some_left i n e = let h = ltb-true i n e in omega arith

none_left : (i n : ℕ) → ltb i n ≡ false → (n - i ≡ 0) × (n - suc i ≡ 0)
none_left i n e = let h = ltb-false i n e in (omega arith, omega arith)

module _ {k : List ℕ} {n : ℕ} {a : List ℕ} {room : ℕ} where
  module _ (i first : ℕ) (g : First k n a room (suc i) first) where
    -- the place i has the key
    first_here : same_key k (take (length k) (drop (i * (length k + 4)) a)) ≡ true → First k n a room i i
    unfolding record_at records entries
    first_here q =
        record {
          low = omega arith;
          high = omega (arith, g.low, g.high);
          finds = by_test (ltb i n) (λ e. rw (e, records_next (length k) (n - i) (drop (i * (length k + 4)) a) (some_left i n e), q))
              (λ e. rw (e, (none_left i n e).0));
          compares = by_test (ltb i n)
              (λ e. rw (e, records_next (length k) (n - i) (drop (i * (length k + 4)) a) (some_left i n e), q) (omega arith))
              (λ e. rw (e, (none_left i n e).0));
        }

    -- the place i has another key
    first_on : same_key k (take (length k) (drop (i * (length k + 4)) a)) ≡ false → First k n a room i first
    unfolding record_at records entries
    first_on q =
        record {
          low = omega (arith, g.low);
          high = g.high;
          finds = by_test (ltb i n)
              (λ e. rw (records_next (length k) (n - i) (drop (i * (length k + 4)) a) (some_left i n e), q, one_less, next_off i (suc i) (length k) a (omega arith)) g.finds)
              (λ e. rw (none_left i n e).0 (rw (none_left i n e).1 at g.finds));
          compares = by_test (ltb i n)
              (λ e. rw (records_next (length k) (n - i) (drop (i * (length k + 4)) a) (some_left i n e), q, one_less, next_off i (suc i) (length k) a (omega arith), g.compares) (count e))
              (λ e. rw (none_left i n e).0 (none_more e));
        }
      where
        one_less : n - i - 1 ≡ n - suc i
        one_less = omega arith

        count : ltb i n ≡ true → suc (cond (ltb first n) (suc first) n - suc i) ≡ cond (ltb first n) (suc first) n - i
        count e =
            let h = ltb-true i n e in
            let l = g.low in by_test (ltb first n) (λ f. rw f (omega arith)) (λ f. rw f (omega arith))

        none_more : ltb i n ≡ false → 0 ≡ cond (ltb first n) (suc first) n - i
        none_more e =
            let h = ltb-false i n e in
            let l = g.low in rw (le-ltb first n (omega arith)) (omega arith)

  -- the next place, by the test of its key
  pub first_next : (i first : ℕ) → First k n a room (suc i) first → (t : Bool) → t ≡ same_key k (take (length k) (drop (i * (length k + 4)) a))
      → First k n a room i (cond t i first)
  first_next i first g t q = by_test t (λ s. rw s (first_here i first g (sym q ∙ s))) (λ s. rw s (first_on i first g (sym q ∙ s)))

  module _ (fits : AllScannable a n room k) where
    pub first_start : First k n a room room room
    unfolding records entries
    first_start =
        let e : n - room ≡ 0 = omega (arith, fits.few) in
        record { low = omega arith; high = omega arith; finds = rw (e, le-ltb room n fits.few); compares = rw (le-ltb room n fits.few, e) }

    -- place i is inside
    pub place_inside : (i : ℕ) → i < room → i * (length k + 4) + (length k + 4) ≤ length a
    place_inside i h = omega (arith, row_fits i room (length k + 4) h, fits.fits)

  -- all places were compared
  module _ (first : ℕ) (g : First k n a room 0 first) where
    pub first_found : first < n → IsPlaceOf k n a (Some first)
    first_found h =
        let e = lt-ltb first n h in
        record {
          finds = rw (e, zero-mul, sub-zero) at g.finds;
          compares = omega (arith, rw (e, zero-mul, sub-zero) at g.compares);
          few = h;
        }

    pub first_none : n ≤ first → IsPlaceOf k n a None
    first_none h =
        let e = le-ltb first n h in
        record {
          finds = rw (e, zero-mul, sub-zero) at g.finds;
          compares = omega (arith, rw (e, zero-mul, sub-zero) at g.compares);
          few = tt;
        }
