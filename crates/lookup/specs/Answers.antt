-- What the search calls answer, as the code holds it.
use Rattle.std.specs.Prelude.{cond, not, Result, Ok, Err, List, [], ℕ, eqb, length}
use Rattle.std.specs.Borrow.{Bor}
use denote.Triple.Both.{Both}
use Rattle.theory.specs.Lists.{all, has}
use Rattle.theory.specs.Records.{records, find, comparisons}
use Rattle.theory.specs.Settings as plain
use Rattle.theory.specs.Layout.{Areas}
use Rattle.theory.specs.Lookup as plain_lookup
use Rattle.theory.specs.Ledger.{search, Reply, answered, handed, totalled}
use Rattle.theory.specs.Calls.{lookup_lengths, perform}
use Rattle.hash.specs.Table.{table_lengths, H_by}
use Rattle.memory.specs.declared.refusals.Refusal.{Refusal}
use Rattle.memory.specs.declared.refusals.Refusal.TheVariants.{SettingOutOfRange, WrongAreaLength, WrongKeyLength}
use Rattle.memory.specs.Refusals.{number_of}
use Rattle.settings.specs.declared.Settings.{Settings}
use Rattle.settings.specs.declared.areas.LookupAreas.{LookupAreas}
use Rattle.settings.specs.Checked.{code}
use Rattle.lookup.specs.Choosing.{card_at}
use Rattle.lookup.specs.declared.searching.Answer.{Answer}

-- the paper's number and values
abbrev pub answer_of : Answer → plain_lookup.Answer
answer_of r =
    record {
      number = r.number;
      class = r.class;
      buckets_read = r.buckets_read;
      records_compared = r.records_compared;
      side_compared = r.side_compared;
    }

-- the answer of comparing n records, which stand at the start of a place, with so many buckets read, and with 1 where they are the side store's
abbrev pub compared : List ℕ → ℕ → List ℕ → ℕ → ℕ → plain_lookup.Answer
compared place n key read side =
    plain_lookup.answer (find key (records (length key) n place)) read (comparisons key (records (length key) n place)) side

-- the three lookup areas as the areas of a call that is lent no others
abbrev pub lookup_areas : List ℕ → List ℕ → List ℕ → Areas
lookup_areas clipped buckets side = record { ledger = []; true_counts = []; clipped_counts = clipped; buckets = buckets; side_store = side }

-- ---- as a contract speaks of what a call is lent: f of the lookup areas, and of a slice beside them, at entry
abbrev pub of_areas {ℓ} : {X : Type ℓ} → (List ℕ → List ℕ → List ℕ → X) → LookupAreas → X
of_areas f areas = f areas.clipped.now areas.buckets.now areas.side.now

abbrev pub at_entry {ℓ} : {X : Type ℓ} → (List ℕ → List ℕ → List ℕ → List ℕ → X) → Both LookupAreas LookupAreas → Both (Bor (List ℕ)) (Bor (List ℕ)) → X
at_entry f areas key = of_areas f areas.entry key.entry.now

-- "gets answer × 2^32 + class": the number of what a search call gives back
abbrev pub driver_of : Reply → ℕ
driver_of (answered x) = plain_lookup.driver_number x
driver_of (handed x) = 0
driver_of (totalled x) = 0

unfoldable pub search_of : plain.Settings → List ℕ → List ℕ → List ℕ → List ℕ → ℕ
search_of t clipped buckets side key = driver_of (perform t 0 (search key) (lookup_areas clipped buckets side)).reply

-- what every search judges first: 1 and 2
unfoldable pub judged_areas : plain.Settings → List ℕ → List ℕ → List ℕ → Result Settings Refusal
judged_areas t clipped buckets side =
    cond (not (plain.allowed t)) (Err SettingOutOfRange)
    (cond (not (all (λ x. x) (lookup_lengths (plain.card_of t) (lookup_areas clipped buckets side)))) (Err WrongAreaLength) (Ok (code t)))

-- then 3
unfoldable pub judged_of : plain.Settings → List ℕ → List ℕ → List ℕ → List ℕ → Result Settings Refusal
judged_of t clipped buckets side key =
    cond (not (plain.allowed t)) (Err SettingOutOfRange)
    (cond (not (all (λ x. x) (lookup_lengths (plain.card_of t) (lookup_areas clipped buckets side)))) (Err WrongAreaLength)
    (cond (not (eqb (length key) (plain.card_of t).width)) (Err WrongKeyLength) (Ok (code t))))

-- the same with a lent table of the hash, of a length that is allowed for such a key, else 2
unfoldable pub judged_with_table : List ℕ → plain.Settings → List ℕ → List ℕ → List ℕ → List ℕ → Result Settings Refusal
judged_with_table table t clipped buckets side key =
    cond (not (plain.allowed t)) (Err SettingOutOfRange)
    (cond (not (has (length table) (table_lengths (plain.card_of t).width))) (Err WrongAreaLength) (judged_of t clipped buckets side key))

-- what a search with a lent table answers, whatever the table holds: refused, the number alone; else the search by the H that the table gives for the key
unfoldable pub search_with : List ℕ → plain.Settings → List ℕ → List ℕ → List ℕ → List ℕ → plain_lookup.Answer
search_with table t clipped buckets side key = by (judged_with_table table t clipped buckets side key)
  where
    by : Result Settings Refusal → plain_lookup.Answer
    by (Err e) = plain_lookup.bare (number_of e)
    by (Ok s) = plain_lookup.search_areas (card_at t (H_by table key)) clipped buckets side key
