-- A burst of searches: many keys, one after the other in a lent part, each with a number for its answer.
use Rattle.std.specs.Prelude.{◌≡◌, cond, not, ◌&&◌, Option, None, Some, Result, Ok, Err, List, map, ℕ, ◌+◌, ◌*◌, ◌/◌, ◌%◌, ◌<◌, eqb, ltb, length, take, drop, get_or}
use Rattle.theory.specs.Lists.{all, has, upto}
use Rattle.theory.specs.Settings as plain
use Rattle.theory.specs.Lookup.{driver_number, answer_at, search_areas}
use Rattle.theory.specs.Calls.{lookup_lengths}
use Rattle.hash.specs.Table.{table_lengths, H_by}
use Rattle.memory.specs.declared.refusals.Refusal.{Refusal}
use Rattle.memory.specs.declared.refusals.Refusal.TheVariants.{SettingOutOfRange, WrongAreaLength, WrongKeyLength}
use Rattle.memory.specs.Refusals.{number_of}
use Rattle.settings.specs.declared.Settings.{Settings}
use Rattle.settings.specs.Checked.{code}
use Rattle.lookup.specs.declared.counters.KeyCounters.{KeyCounters}
use Rattle.lookup.specs.Choosing.{card_at}
use Rattle.lookup.specs.Places.{CheckedPlaces, KeyCountersFit, place_by}
use Rattle.lookup.specs.Answers.{lookup_areas}

-- key j of a burst, of keys of w bytes
abbrev pub burst_key : ℕ → List ℕ → ℕ → List ℕ
burst_key w keys j = take w (drop (j * w) keys)

-- a number for each key, from the first
abbrev pub per_key : (ℕ → ℕ) → ℕ → List ℕ
per_key f n = map f (upto 0 n)

-- what is judged first: 1; 2, the length of the table or of a lookup area; 3, keys not of n times the key's bytes
unfoldable pub judged_burst : List ℕ → plain.Settings → List ℕ → List ℕ → List ℕ → List ℕ → ℕ → Result Settings Refusal
judged_burst table t clipped buckets side keys n =
    cond (not (plain.allowed t)) (Err SettingOutOfRange)
    (cond (not (has (length table) (table_lengths (plain.card_of t).width)
    && all (λ x. x) (lookup_lengths (plain.card_of t) (lookup_areas clipped buckets side))))
    (Err WrongAreaLength)
    (cond (not (eqb (length keys) (n * (plain.card_of t).width))) (Err WrongKeyLength) (Ok (code t))))

-- ---- the three passes over the answers: H of each key; what its counters say; its answer's number
-- what the counters say, as one number: 2^32 where one is above T, else the rank of the choice
abbrev pub packed_of : Option KeyCounters → ℕ
packed_of None = 4294967296
packed_of (Some c) = c.least.0 * 65536 + c.bucket

abbrev pub unpacked_of : ℕ → Option KeyCounters
unpacked_of x = cond (ltb 4294967295 x) None (Some (record { least = record { 0 = x % 4294967296 / 65536 }; bucket = x % 65536 }))

-- small enough for that
abbrev pub CountersFit : Option KeyCounters → Type 0
CountersFit None = Unit {0}
CountersFit (Some c) = (c.least.0 < 65536) × (c.bucket < 65536)

-- what the third pass asks: areas that are judged, a key for each number, and numbers that counters were packed into
pub record ByPacked (t : plain.Settings) (buckets side keys answers : List ℕ) : Type 0 where
  pub checked : CheckedPlaces t buckets side
  pub keys_size : length keys ≡ length answers * (plain.card_of t).width
  pub fits : (j : ℕ) → j < length answers → KeyCountersFit t (unpacked_of (get_or answers j 0))

-- the driver's number of a key, from what its counters say
unfoldable pub number_by : plain.Settings → List ℕ → List ℕ → List ℕ → ℕ → ℕ
number_by t buckets side key x = driver_number (answer_at (plain.card_of t) key (place_by (plain.card_of t) (unpacked_of x) buckets side))

-- the driver's number of a key whose H is h
unfoldable pub number_at : plain.Settings → List ℕ → List ℕ → List ℕ → List ℕ → ℕ → ℕ
number_at t clipped buckets side key h = driver_number (search_areas (card_at t h) clipped buckets side key)

-- ---- what a burst gives on every input: refused, the answers are as they were; else each is the driver's number of its key, by the H of the table
pub record Burst : Type 0 where
  pub number : ℕ
  pub answers : List ℕ

unfoldable pub burst_of : List ℕ → plain.Settings → List ℕ → List ℕ → List ℕ → List ℕ → List ℕ → Burst
burst_of table t clipped buckets side keys before = by (judged_burst table t clipped buckets side keys (length before))
  where
    by : Result Settings Refusal → Burst
    by (Err e) = record { number = number_of e; answers = before }
    by (Ok s) =
        record {
          number = 0;
          answers =
              per_key
              (λ j. number_at t clipped buckets side (burst_key (plain.card_of t).width keys j) (H_by table (burst_key (plain.card_of t).width keys j)))
              (length before);
        }
