-- Laws of the layout: the lengths of its areas, and what is read back from them.
use mathlib.Core.Path.{◌≡◌, refl, ap, ◌∙◌}
use mathlib.Core.Logic.{◌≢◌}
use mathlib.Core.Bool.{Bool, true, false, cond}
use mathlib.Core.List.{List, []}
use Prim.Native.Nat.{ℕ, ◌+◌, ◌-◌, ◌*◌, ◌/◌, ◌%◌, ◌≤◌, ◌<◌, zero-le, min}
use native.Mathlib.Nat.{mul-add, add-sub_of_le, zero-add, mul_comm, min-le_right, le_trans}
use native.Mathlib.Omega.{arith}
use lib.Dec.{eqb}
use borrow.Author.Tests.{ltb-false, eqb-true, eqb-false}
use lib.ListN.{length, take, drop, get_or, replicate, length-append, length-replicate, length-map}
use lib.Seq.{take_at, drop_at}
use Rattle.theory.specs.Lists.{upto}
use Rattle.theory.specs.Records.{Record, to_bytes, of_bytes, record_bytes, records, find, find_bytes}
use Rattle.theory.specs.Settings.{Card, record_size, bucket_size, buckets_length}
use Rattle.theory.specs.Placing.{clip, true_count, choosers, crowded, bucket_records, side_records}
use Rattle.theory.specs.Layout.{layout, layout_by, places, counted_places, counter_bytes, bucket_bytes, buckets_bytes}
use Rattle.theory.specs.Lookup.{counter, bucket_part, part}
use Rattle.theory.proofs.ListLaws.{All, length_flat, all_every, all_map, length_upto, getD_map_upto, piece, filter_all}
use Rattle.theory.proofs.SettingsLaws.{Sound}
use Rattle.theory.proofs.ByteLaws.{Fit, length_to_bytes, of_to_bytes, length_record, read_records, read_found}

-- two counters in a byte, and the one of b
half_byte : (f : ℕ → ℕ) (b : ℕ) → f (2 * (b / 2)) ≤ 15
    → cond (eqb (b % 2) 0) ((f (2 * (b / 2)) + 16 * f (2 * (b / 2) + 1)) % 16) ((f (2 * (b / 2)) + 16 * f (2 * (b / 2) + 1)) / 16) ≡ f b
half_byte f b h = go (eqb (b % 2) 0) refl
  where
    go : (t : Bool) → eqb (b % 2) 0 ≡ t → cond t ((f (2 * (b / 2)) + 16 * f (2 * (b / 2) + 1)) % 16) ((f (2 * (b / 2)) + 16 * f (2 * (b / 2) + 1)) / 16) ≡ f b
    go true e = let q : (f (2 * (b / 2)) + 16 * f (2 * (b / 2) + 1)) % 16 ≡ f (2 * (b / 2)) = omega arith in q ∙ ap f (omega (arith, eqb-true (b % 2) 0 e))
    go false e =
        let q : (f (2 * (b / 2)) + 16 * f (2 * (b / 2) + 1)) / 16 ≡ f (2 * (b / 2) + 1) = omega arith in
        let n : b % 2 ≢ 0 = eqb-false (b % 2) 0 e in q ∙ ap f (omega arith)

module _ (s : Card) where
  -- ---- n record places
  pub length_places : (n : ℕ) (l : List Record) → All (Fit s.width) l → length l ≤ n → length (places s n l) ≡ record_size s * n
  unfolding places record_size
  length_places n l h le =
      rw (length-append, length-replicate, length_flat record_bytes (s.width + 4) l (all_map (λ r f. length_record s.width r f) l h), ← mul-add)
      (rw (add-sub_of_le le))

  pub read_places : (n : ℕ) (l : List Record) → All (Fit s.width) l → records s.width (length l) (places s n l) ≡ l
  unfolding places
  read_places n l h = read_records s.width l (replicate (record_size s * (n - length l)) 0) h

  pub read_place_bytes : (k : List ℕ) (n : ℕ) (l : List Record) → All (Fit s.width) l → find_bytes s.width (length l) (places s n l) k ≡ part (find k l)
  unfolding places
  read_place_bytes k n l h = read_found s.width k l (replicate (record_size s * (n - length l)) 0) h

  -- ---- a count and n record places
  pub length_counted : (n : ℕ) (l : List Record) → All (Fit s.width) l → length l ≤ n → length (counted_places s n l) ≡ 2 + record_size s * n
  unfolding counted_places
  length_counted n l h le = rw (length-append, length_to_bytes, length_places n l h le)

  pub read_count : (n : ℕ) (l : List Record) → length l < 65536 → of_bytes (take 2 (counted_places s n l)) ≡ length l
  unfolding counted_places
  read_count n l h = rw (take_at (to_bytes 2 (length l)) (places s n l) 2 (length_to_bytes 2 (length l))) (of_to_bytes 2 (length l) h)

  pub after_count : (n : ℕ) (l : List Record) → drop 2 (counted_places s n l) ≡ places s n l
  unfolding counted_places
  after_count n l = drop_at (to_bytes 2 (length l)) (places s n l) 2 (length_to_bytes 2 (length l))

  -- ---- true counts
  pub read_true_count : (l : List Record) (b : ℕ) → b < s.buckets → get_or (layout s l).true_counts b 0 ≡ true_count s l b
  unfolding layout layout_by
  read_true_count l b h = rw (getD_map_upto (true_count s l) 0 s.buckets b 0 h, zero-add)

  module _ (ok : Sound s) (c : ℕ → ℕ) where
    -- ---- counters
    pub length_counters : length (counter_bytes s c) ≡ s.buckets / 2
    unfolding counter_bytes
    length_counters = rw (length-map, length_upto)

    pub read_counter : (b : ℕ) → b < s.buckets → counter (counter_bytes s c) b ≡ clip s (c b)
    unfolding counter_bytes counter clip
    read_counter b h =
        rw (getD_map_upto (λ i. min (c (2 * i)) s.top + 16 * min (c (2 * i + 1)) s.top) 0 (s.buckets / 2) (b / 2) 0 (omega (arith, ok.even)), zero-add)
        (half_byte (λ i. min (c i) s.top) b (le_trans (min-le_right (c (2 * (b / 2))) s.top) ok.top_four_bits))

    module _ (l : List Record) where
      -- ---- buckets
      pub bucket_fits : (b : ℕ) → length (bucket_records s c l b) ≤ s.room
      unfolding bucket_records crowded
      bucket_fits b = go (crowded s c l b) refl
        where
          go : (t : Bool) → crowded s c l b ≡ t → length (cond t [] (choosers s c l b)) ≤ s.room
          go true e = zero-le
          go false e = ltb-false _ _ e

      module _ (h : All (Fit s.width) l) where
        pub bucket_fit : (b : ℕ) → All (Fit s.width) (bucket_records s c l b)
        unfolding bucket_records choosers
        bucket_fit b = go (crowded s c l b)
          where
            go : (t : Bool) → All (Fit s.width) (cond t [] (choosers s c l b))
            go true = tt
            go false = filter_all (Fit s.width) _ l h

        pub length_bucket : (b : ℕ) → length (bucket_bytes s c l b) ≡ bucket_size s
        unfolding bucket_bytes bucket_size
        length_bucket b = omega (arith, length_places s.room (bucket_records s c l b) (bucket_fit b) (bucket_fits b))

        pub length_buckets : length (buckets_bytes s c l) ≡ buckets_length s
        unfolding buckets_bytes buckets_length
        length_buckets = rw (length_flat (λ b. bucket_bytes s c l b) (bucket_size s) (upto 0 s.buckets) (all_every length_bucket (upto 0 s.buckets)))
            (rw (length_upto, mul_comm))

        pub read_bucket : (b : ℕ) → b < s.buckets → bucket_part s (buckets_bytes s c l) b ≡ bucket_bytes s c l b
        unfolding buckets_bytes bucket_part
        read_bucket b lt = rw (piece (λ b. bucket_bytes s c l b) (bucket_size s) length_bucket 0 s.buckets b lt, zero-add)

        pub side_fit : All (Fit s.width) (side_records s c l)
        unfolding side_records
        side_fit = filter_all (Fit s.width) _ l h
