-- What the counters of a key say, as the code holds it.
use Rattle.std.specs.Prelude.{◌≡◌, ◌/◌, ◌%◌, cond, Option, None, Some, List, [], ℕ, ltb}
use Rattle.theory.specs.Lists.{any}
use Rattle.theory.specs.Hash.{numbers_of}
use Rattle.theory.specs.Settings.{Settings, Card, card_of}
use Rattle.theory.specs.Placing.{least_count, chosen}
use Rattle.theory.specs.Lookup.{counter}
use Rattle.settings.specs.declared.counts.ClippedCount.{ClippedCount}
use Rattle.lookup.specs.declared.counters.KeyCounters.{KeyCounters}

-- the card of settings as a key sees it whose H is h: its bucket numbers are those of h
unfoldable pub card_at : Settings → ℕ → Card
card_at t h =
    record {
      width = (card_of t).width;
      buckets = (card_of t).buckets;
      room = (card_of t).room;
      top = (card_of t).top;
      capacity = (card_of t).capacity;
      side_places = (card_of t).side_places;
      numbers = λ key. numbers_of (card_of t).buckets t.k h;
    }

-- a counter and its bucket as one number, its rank, and back
abbrev pub of_rank : ℕ → KeyCounters
of_rank rank = record { least = record { 0 = rank / 65536 }; bucket = rank % 65536 }

-- whatever the key is: whether one counter is above T, by the greatest; the least; of the bucket numbers with the least, the lowest
pub record CountersOf (t : Settings) (h : ℕ) (clipped : List ℕ) (greatest : ClippedCount) (r : KeyCounters) : Type 0 where
  pub above : ltb t.top greatest.0 ≡ any (λ b. ltb t.top (counter clipped b)) (numbers_of (card_of t).buckets t.k h)
  pub least : (key : List ℕ) → r.least.0 ≡ least_count (card_at t h) (counter clipped) key
  pub bucket : (key : List ℕ) → r.bucket ≡ chosen (card_at t h) (counter clipped) key

-- what they say of a key whose H is h: none where one counter is above T; else the least, and of the bucket numbers with the least the lowest
unfoldable pub key_counters_at : Settings → List ℕ → ℕ → Option KeyCounters
key_counters_at t clipped h =
    cond (any (λ b. ltb t.top (counter clipped b)) (numbers_of (card_of t).buckets t.k h)) None
    (Some (record {
      least = record { 0 = least_count (card_at t h) (counter clipped) [] };
      bucket = chosen (card_at t h) (counter clipped) [];
    }))

-- the bucket that they choose, if they do
abbrev pub bucket_of : Option KeyCounters → ℕ
bucket_of None = 0
bucket_of (Some c) = c.bucket
