-- The layout of the empty list is zeros in every area, each of its length.
use mathlib.Core.Path.{◌≡◌, refl, ap}
use mathlib.Core.List.{List, [], ◌∷◌, ◌++◌, map}
use Prim.Native.Nat.{ℕ, zero, suc, ◌+◌, ◌*◌, ◌/◌}
use native.Mathlib.Nat.{sub-zero, suc-mul, add_comm, zero-mul, zero-add, suc-add}
use native.Mathlib.Omega.{arith}
use borrow.Author.Tests.{le-ltb}
use Rattle.theory.specs.Lists.{flat, upto}
use Rattle.theory.specs.Settings.{Card, record_size, bucket_size, ledger_length, true_length, clipped_length, buckets_length, side_length}
use Rattle.theory.specs.Placing.{clip, true_count, choosers, crowded, mark, bucket_records, side_records}
use Rattle.theory.specs.Layout.{places, counter_bytes, bucket_bytes, buckets_bytes, side_bytes, layout_by, layout}
use Rattle.memory.proofs.SliceLaws.{zeros}
use Rattle.writing.proofs.SideLaws.{no_places}

map_zeros : (f : ℕ → ℕ) → ((b : ℕ) → f b ≡ 0) → (a n : ℕ) → map f (upto a n) ≡ zeros n
map_zeros f e a zero = refl
map_zeros f e a (suc n) = rw (e a, map_zeros f e (suc a) n)

zeros_append : (n k : ℕ) → zeros n ++ zeros k ≡ zeros (n + k)
zeros_append zero k = rw zero-add
zeros_append (suc n) k = rw suc-add (ap (λ (l : List ℕ). 0 ∷ l) (zeros_append n k))

flat_zeros : (f : ℕ → List ℕ) (z : ℕ) → ((b : ℕ) → f b ≡ zeros z) → (a n : ℕ) → flat f (upto a n) ≡ zeros (n * z)
flat_zeros f z e a zero = rw zero-mul
flat_zeros f z e a (suc n) = rw (e a, flat_zeros f z e (suc a) n, zeros_append z (n * z), suc-mul, add_comm (n * z) z)

module _ (s : Card) where
  no_count : (b : ℕ) → true_count s [] b ≡ 0
  unfolding true_count
  no_count b = refl

  no_clipped : (c : ℕ → ℕ) → ((b : ℕ) → c b ≡ 0) → counter_bytes s c ≡ zeros (s.buckets / 2)
  unfolding counter_bytes clip
  no_clipped c e = map_zeros _ (λ i. omega (arith, e (2 * i), e (2 * i + 1))) 0 (s.buckets / 2)

  module _ (c : ℕ → ℕ) where
    no_bucket : (b : ℕ) → bucket_bytes s c [] b ≡ zeros (bucket_size s)
    unfolding bucket_bytes mark bucket_records crowded choosers places bucket_size
    no_bucket b =
        let one : 1 + record_size s * s.room ≡ suc (record_size s * s.room) = omega arith in
        rw (le-ltb s.room 0 (omega arith), sub-zero, one)

    no_buckets : buckets_bytes s c [] ≡ zeros (buckets_length s)
    unfolding buckets_bytes buckets_length
    no_buckets = flat_zeros (bucket_bytes s c []) (bucket_size s) no_bucket 0 s.buckets

    no_side : side_bytes s c [] ≡ zeros (side_length s)
    unfolding side_bytes side_records side_length
    no_side = no_places s s.side_places

  pub empty_layout : layout s []
      ≡ record {
        ledger = zeros (ledger_length s);
        true_counts = zeros (true_length s);
        clipped_counts = zeros (clipped_length s);
        buckets = zeros (buckets_length s);
        side_store = zeros (side_length s);
      }
  unfolding layout layout_by ledger_length true_length clipped_length
  empty_layout =
      rw (no_places s s.capacity, map_zeros (true_count s []) no_count 0 s.buckets, no_clipped (true_count s []) no_count)
      (rw (no_buckets (true_count s []), no_side (true_count s [])))

  -- areas of their lengths, each all zeros
  pub cleared : (ledger true_counts clipped buckets side : List ℕ)
      → ledger ≡ zeros (ledger_length s) → true_counts ≡ zeros (true_length s) → clipped ≡ zeros (clipped_length s) → buckets ≡ zeros (buckets_length s)
      → side ≡ zeros (side_length s)
      → record { ledger = ledger; true_counts = true_counts; clipped_counts = clipped; buckets = buckets; side_store = side } ≡ layout s []
  cleared ledger true_counts clipped buckets side e f g h i = rw (e, f, g, h, i, empty_layout)
