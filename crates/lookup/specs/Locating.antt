-- A search's answer with the place of the record, as the code holds it.
use Rattle.std.specs.Prelude.{◌≡◌, cond, Option, None, Some, Result, Ok, Err, List, ℕ, ◌+◌, ◌-◌, ◌*◌, ◌≤◌, eqb}
use Rattle.theory.specs.Settings.{Settings, Card, card_of}
use Rattle.theory.specs.Lookup as plain
use Rattle.theory.specs.Lookup.{no_place, search_areas}
use Rattle.theory.specs.Layout.{Areas}
use Rattle.theory.specs.Ledger.{search, Step, answered}
use Rattle.theory.specs.Calls.{perform}
use Rattle.memory.specs.declared.refusals.Refusal.{Refusal}
use Rattle.settings.specs.declared.Settings as code
use Rattle.lookup.specs.declared.searching.Answer.{Answer}
use Rattle.lookup.specs.declared.locating.Area.{Area}
use Rattle.lookup.specs.declared.locating.Area.TheVariants.{Buckets, Side}
use Rattle.lookup.specs.declared.locating.RecordPlace.{RecordPlace}
use Rattle.lookup.specs.declared.locating.Located.{Located}
use Rattle.lookup.specs.Answers.{answer_of, lookup_areas, judged_of}

-- the place as the definition has it
abbrev pub area_number : Area → ℕ
area_number Buckets = 1
area_number Side = 2

abbrev pub place_of_record : Option RecordPlace → plain.RecordPlace
place_of_record None = no_place
place_of_record (Some p) = record { area = area_number p.area; start = p.start }

abbrev pub lies_at : Located → plain.RecordPlace
lies_at r = place_of_record r.place

-- the record found is the last of those compared, and its first byte is a small number
pub record Placeable (a : Answer) (first size : ℕ) : Type 0 where
  pub counted : a.number ≡ 0 → 1 ≤ a.records_compared
  pub near : first ≤ 1000000
  pub small : size ≤ 100

-- where it starts, by an answer from records of a size, the first of which starts at a byte of an area
abbrev pub record_from : Answer → Area → ℕ → ℕ → Option RecordPlace
record_from a area first size =
    cond (eqb a.number 0) (Some (record { area = area; start = first + (a.records_compared - 1) * size })) None

-- the answer and the place of a key by the lookup areas
pub record LocatedAt (s : Card) (clipped buckets side key : List ℕ) (r : Located) : Type 0 where
  pub answers : answer_of r.answer ≡ search_areas s clipped buckets side key
  pub lies : lies_at r ≡ plain.record_place s clipped buckets side key

-- where the record lies by a call: nowhere if it is refused with 1, 2 or 3
unfoldable pub judged_place : Settings → List ℕ → List ℕ → List ℕ → List ℕ → plain.RecordPlace
judged_place t clipped buckets side key = by (judged_of t clipped buckets side key)
  where
    by : Result code.Settings Refusal → plain.RecordPlace
    by (Err e) = no_place
    by (Ok s) = plain.record_place (card_of t) clipped buckets side key

-- the call on every input: `perform`'s search, and where the record lies
pub record LocatedCall (t : Settings) (clipped buckets side key : List ℕ) (r : Located) : Type 0 where
  pub answers : ◌≡◌ {A = Step Areas} (record { reply = answered (answer_of r.answer); state = lookup_areas clipped buckets side })
      (perform t 0 (search key) (lookup_areas clipped buckets side))
  pub lies : lies_at r ≡ judged_place t clipped buckets side key
