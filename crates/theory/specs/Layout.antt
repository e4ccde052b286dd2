-- Document 01, 'Settings and areas' and 'Placing': the bytes of the five areas that a list of records lays out.
use Rattle.std.specs.Prelude.{List, ◌∷◌, ◌++◌, map, ℕ, ◌+◌, ◌-◌, ◌*◌, ◌/◌, length, replicate}
use Rattle.theory.specs.Lists.{flat, upto}
use Rattle.theory.specs.Records.{Record, to_bytes, record_bytes}
use Rattle.theory.specs.Settings.{Card, record_size}
use Rattle.theory.specs.Placing.{clip, true_count, mark, bucket_records, side_records}

-- the areas that every call shares; true counts are numbers, the others bytes
pub record Areas : Type 0 where
  pub ledger : List ℕ
  pub true_counts : List ℕ
  pub clipped_counts : List ℕ
  pub buckets : List ℕ
  pub side_store : List ℕ

module _ (s : Card) where
  -- n record places: the records, then zeros
  unfoldable pub places : ℕ → List Record → List ℕ
  places n l = flat record_bytes l ++ replicate (record_size s * (n - length l)) 0

  -- the shape of ledger and side store: a two-byte count, then n record places
  unfoldable pub counted_places : ℕ → List Record → List ℕ
  counted_places n l = to_bytes 2 (length l) ++ places n l

  -- clipped counts: bucket b in byte b / 2, an even b in the low four bits
  unfoldable pub counter_bytes : (ℕ → ℕ) → List ℕ
  counter_bytes c = map (λ i. clip s (c (2 * i)) + 16 * clip s (c (2 * i + 1))) (upto 0 (s.buckets / 2))

  -- one bucket: the mark, then its records in key order, then zeros
  unfoldable pub bucket_bytes : (ℕ → ℕ) → List Record → ℕ → List ℕ
  bucket_bytes c l b = mark s c l b ∷ places s.room (bucket_records s c l b)

  unfoldable pub buckets_bytes : (ℕ → ℕ) → List Record → List ℕ
  buckets_bytes c l = flat (λ b. bucket_bytes c l b) (upto 0 s.buckets)

  unfoldable pub side_bytes : (ℕ → ℕ) → List Record → List ℕ
  side_bytes c l = counted_places s.side_places (side_records s c l)

  -- the layout of a list, placed by counters c
  unfoldable pub layout_by : (ℕ → ℕ) → List Record → Areas
  layout_by c l =
      record {
        ledger = counted_places s.capacity l;
        true_counts = map (true_count s l) (upto 0 s.buckets);
        clipped_counts = counter_bytes c;
        buckets = buckets_bytes c l;
        side_store = side_bytes c l;
      }

  -- the layout of a list: placed by its true counts
  unfoldable pub layout : List Record → Areas
  layout l = layout_by (true_count s l) l
