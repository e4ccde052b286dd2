-- Where a search looks, as the code holds it.
use Rattle.std.specs.Prelude.{◌≡◌, Bool, true, false, cond, not, Option, None, Some, List, ℕ, ◌+◌, ◌-◌, ◌*◌, ◌≤◌, ◌<◌, eqb, length, take, drop, get_or}
use Rattle.theory.specs.Settings.{Settings, Card, card_of, allowed, bucket_size, clipped_length, buckets_length, side_length}
use Rattle.theory.specs.Lookup as plain
use Rattle.lookup.specs.declared.counters.KeyCounters.{KeyCounters}
use Rattle.lookup.specs.Choosing.{bucket_of}
use Rattle.lookup.specs.declared.places.Place.{Place}
use Rattle.lookup.specs.declared.places.Place.TheVariants.{Invalid, Nowhere, Bucket, Side}

-- settings and lookup areas that are judged already: allowed settings, and areas of their lengths
pub record CheckedLookup (t : Settings) (clipped buckets side : List ℕ) : Type 0 where
  pub ok : allowed t ≡ true
  pub clipped_size : length clipped ≡ clipped_length (card_of t)
  pub buckets_size : length buckets ≡ buckets_length (card_of t)
  pub side_size : length side ≡ side_length (card_of t)

-- the same without the clipped counts, for what follows once the counters are read
pub record CheckedPlaces (t : Settings) (buckets side : List ℕ) : Type 0 where
  pub ok : allowed t ≡ true
  pub buckets_size : length buckets ≡ buckets_length (card_of t)
  pub side_size : length side ≡ side_length (card_of t)

-- a place of the code as the definition has it: the records of a bucket stand after its mark, those of the side store after its count
abbrev pub place_of : Card → List ℕ → List ℕ → Place → plain.Place
place_of s buckets side Invalid = plain.invalid
place_of s buckets side Nowhere = plain.nowhere
place_of s buckets side (Bucket from records) = plain.among (take (bucket_size s - 1) (drop from buckets)) records 1 0
place_of s buckets side (Side records read) = plain.among (drop 2 side) records read 1

-- the records lie inside the areas, and at most one bucket was read
abbrev pub Inside : Settings → Place → Type 0
Inside t Invalid = Unit {0}
Inside t Nowhere = Unit {0}
Inside t (Bucket from records) = (from + (bucket_size (card_of t) - 1) ≤ buckets_length (card_of t)) × (records ≤ t.room)
Inside t (Side records read) = (records ≤ t.side_places) × (read ≤ 1)

-- by what the counters of a key say: one above T, refused; the least zero, absent; the least T, the side store; otherwise the chosen bucket
abbrev pub by_choice : {X : Type 0} → Card → Option KeyCounters → X → X → X → X → X
by_choice s None refused absent side bucket = refused
by_choice s (Some c) refused absent side bucket = cond (eqb c.least.0 0) absent (cond (eqb c.least.0 s.top) side bucket)

-- where a search then looks, and whether it ends in a bucket, whose mark is not 255
unfoldable pub place_by : Card → Option KeyCounters → List ℕ → List ℕ → plain.Place
place_by s c buckets side =
    by_choice s c plain.invalid plain.nowhere (plain.side_place s side 0) (plain.bucket_place s (plain.bucket_part s buckets (bucket_of c)) side)

unfoldable pub goes_by : Card → Option KeyCounters → List ℕ → Bool
goes_by s c buckets = by_choice s c false false false (not (eqb (get_or (plain.bucket_part s buckets (bucket_of c)) 0 0) 255))

-- a bucket that is read is one of the card's
abbrev pub KeyCountersFit : Settings → Option KeyCounters → Type 0
KeyCountersFit t None = Unit {0}
KeyCountersFit t (Some c) = (c.least.0 ≡ t.top → ⊥) → c.bucket < (card_of t).buckets

-- a place in bucket b, after its mark, or in the side store, as the test says
abbrev pub Goes : Card → ℕ → Bool → Place → Type 0
Goes s b in_bucket Invalid = Unit {0}
Goes s b in_bucket Nowhere = Unit {0}
Goes s b in_bucket (Bucket from records) = (in_bucket ≡ true) × (from ≡ b * bucket_size s + 1)
Goes s b in_bucket (Side records read) = in_bucket ≡ false

-- where the code looks is where the definition does, and inside the areas; and in bucket b or in the side store, as the test says
pub record Looks (t : Settings) (buckets side : List ℕ) (x : plain.Place) (r : Place) : Type 0 where
  pub is : place_of (card_of t) buckets side r ≡ x
  pub inside : Inside t r

pub record LooksAt (t : Settings) (buckets side : List ℕ) (x : plain.Place) (b : ℕ) (in_bucket : Bool) (r : Place) : Type 0 where
  pub looks : Looks t buckets side x r
  pub goes : Goes (card_of t) b in_bucket r

-- what a look at the side store asks, with at most one bucket read before
pub record SideRead (t : Settings) (side : List ℕ) (read : ℕ) : Type 0 where
  pub ok : allowed t ≡ true
  pub side_size : length side ≡ side_length (card_of t)
  pub once : read ≤ 1

-- ---- what comparing asks: a key of the width, n records that start at a byte of the buckets, or n records of the side store
pub record InBucket (t : Settings) (buckets key : List ℕ) (from n : ℕ) : Type 0 where
  pub ok : allowed t ≡ true
  pub buckets_size : length buckets ≡ buckets_length (card_of t)
  pub wide : length key ≡ (card_of t).width
  pub inside : from + (bucket_size (card_of t) - 1) ≤ length buckets
  pub few : n ≤ t.room

pub record InSide (t : Settings) (side key : List ℕ) (n : ℕ) : Type 0 where
  pub ok : allowed t ≡ true
  pub side_size : length side ≡ side_length (card_of t)
  pub wide : length key ≡ (card_of t).width
  pub few : n ≤ t.side_places

-- what a search asks once it is known where it looks: areas that are judged, a key of the width, and a place inside the areas
pub record ByPlace (t : Settings) (r : Place) (buckets side key : List ℕ) : Type 0 where
  pub checked : CheckedPlaces t buckets side
  pub wide : length key ≡ (card_of t).width
  pub inside : Inside t r

-- what a search by its counters asks: areas that are judged, and a key of the width
pub record ByCounters (t : Settings) (c : Option KeyCounters) (buckets side key : List ℕ) : Type 0 where
  pub checked : CheckedPlaces t buckets side
  pub fits : KeyCountersFit t c
  pub wide : length key ≡ (card_of t).width
