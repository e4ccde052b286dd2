-- Document 01, 'The calls': both search calls over the lookup areas (clipped counts, buckets, side store) with any contents.
use Rattle.std.specs.Prelude.{Bool, true, false, cond, not, ◌&&◌, ◌||◌, List, [], ℕ, ◌+◌, ◌-◌, ◌*◌, ◌/◌, ◌%◌, ◌^◌, ltb, eqb, take, drop, get_or}
use Rattle.std.proofs.Math.Option.{Option, none, some}
use Rattle.theory.specs.Lists.{any, all}
use Rattle.theory.specs.Records.{Record, record_bytes, records, count_of, find, comparisons, find_bytes}
use Rattle.theory.specs.Settings.{Card, record_size, bucket_size}
use Rattle.theory.specs.Placing.{chosen}

-- an answer: its number (0 accepted and held, 100 absent, else the refusal), class, buckets read, records compared, and (document 02, U5) 1 where the side
-- store was the place compared, also where it holds no record, else 0
pub record Answer : Type 0 where
  pub number : ℕ
  pub class : ℕ
  pub buckets_read : ℕ
  pub records_compared : ℕ
  pub side_compared : ℕ

-- the number, with class and counts zero: a refusal, and with 0 an accepted update
abbrev pub bare : ℕ → Answer
bare n = record { number = n; class = 0; buckets_read = 0; records_compared = 0; side_compared = 0 }

-- "An accepted call answers 0, but 100 for a search that finds nothing"
abbrev pub accepted : ℕ → Bool
accepted n = eqb n 0 || eqb n 100

-- held with the class of the record, or absent with class zero
abbrev pub answer : Option Record → ℕ → ℕ → ℕ → Answer
answer (some r) read compared side = record { number = 0; class = r.class; buckets_read = read; records_compared = compared; side_compared = side }
answer none read compared side = record { number = 100; class = 0; buckets_read = read; records_compared = compared; side_compared = side }

-- the bytes of the record, or the empty part
abbrev pub part : Option Record → List ℕ
part (some r) = record_bytes r
part none = []

-- the four-bit counter of bucket b
unfoldable pub counter : List ℕ → ℕ → ℕ
counter clipped b = cond (eqb (b % 2) 0) (get_or clipped (b / 2) 0 % 16) (get_or clipped (b / 2) 0 / 16)

-- what a search comes to: refused with 5; absent by a zero counter; or so many records to compare, which stand at the start of these bytes, with so many
-- buckets read, and with 1 where they are the side store's, 0 where they are a bucket's
pub data Place : Type 0 where
  invalid : Place
  nowhere : Place
  among : List ℕ → ℕ → ℕ → ℕ → Place

-- where a record lies: area 1 is the buckets, area 2 the side store, and start the byte of it where the record starts; nowhere is 0 and 0
pub record RecordPlace : Type 0 where
  pub area : ℕ
  pub start : ℕ

abbrev pub no_place : RecordPlace
no_place = record { area = 0; start = 0 }

module _ (s : Card) where
  -- the part of the bucket area that is bucket b
  unfoldable pub bucket_part : List ℕ → ℕ → List ℕ
  bucket_part buckets b = take (bucket_size s) (drop (b * bucket_size s) buckets)

  -- the side store is compared: 5 for a side count above S
  unfoldable pub side_place : List ℕ → ℕ → Place
  side_place side read = cond (ltb s.side_places (count_of side)) invalid (among (drop 2 side) (count_of side) read 1)

  -- one bucket is read: mark 255 sends on to the side store, 5 for another mark above B
  unfoldable pub bucket_place : List ℕ → List ℕ → Place
  bucket_place bucket side =
      let mark = get_or bucket 0 0 in
      cond (eqb mark 255) (side_place side 1) (cond (ltb s.room mark) invalid (among (drop 1 bucket) mark 1 0))

  -- all counters of the key are read: one above T, refused; one zero, absent; all equal to T, the side store; otherwise the chosen bucket
  unfoldable pub by_counters : {X : Type 0} → (ℕ → ℕ) → List ℕ → X → X → X → X → X
  by_counters c k refused absent side bucket =
      cond (any (λ b. ltb s.top (c b)) (s.numbers k)) refused
      (cond (any (λ b. eqb (c b) 0) (s.numbers k)) absent (cond (all (λ b. eqb (c b) s.top) (s.numbers k)) side bucket))

  -- the counters send the key to a bucket, so that one is read
  unfoldable pub reads_bucket : List ℕ → List ℕ → Bool
  reads_bucket clipped k = by_counters (counter clipped) k false false false true

  -- a search ends in a bucket: the counters send the key to one, and its mark is not 255
  unfoldable pub goes_to_bucket : List ℕ → List ℕ → List ℕ → Bool
  goes_to_bucket clipped buckets k =
      reads_bucket clipped k && not (eqb (get_or (bucket_part buckets (chosen s (counter clipped) k)) 0 0) 255)

  unfoldable pub place : List ℕ → List ℕ → List ℕ → List ℕ → Place
  place clipped buckets side k =
      by_counters (counter clipped) k invalid nowhere (side_place side 0)
      (bucket_place (bucket_part buckets (chosen s (counter clipped) k)) side)

  -- the answer of a search, and the part that the second search call hands back
  unfoldable pub answer_at : List ℕ → Place → Answer
  answer_at k invalid = bare 5
  answer_at k nowhere = answer none 0 0 0
  answer_at k (among a n read z) = answer (find k (records s.width n a)) read (comparisons k (records s.width n a)) z

  unfoldable pub part_at : List ℕ → Place → List ℕ
  part_at k invalid = []
  part_at k nowhere = []
  part_at k (among a n read z) = find_bytes s.width n a k

  unfoldable pub search_areas : List ℕ → List ℕ → List ℕ → List ℕ → Answer
  search_areas clipped buckets side k = answer_at k (place clipped buckets side k)

  unfoldable pub fetch_areas : List ℕ → List ℕ → List ℕ → List ℕ → List ℕ
  fetch_areas clipped buckets side k = part_at k (place clipped buckets side k)

  -- "the 17 bytes themselves, out of the buckets or out of the side store": where they lie. The records of the chosen bucket stand after its mark, those of the
  -- side store after its count, and "records are compared from the first up to the equal one"
  unfoldable pub record_place : List ℕ → List ℕ → List ℕ → List ℕ → RecordPlace
  record_place clipped buckets side k =
      let found = search_areas clipped buckets side k in
      let in_bucket = goes_to_bucket clipped buckets k in
      let first = cond in_bucket (chosen s (counter clipped) k * bucket_size s + 1) 2 in
      cond (eqb found.number 0)
      (record { area = cond in_bucket 1 2; start = first + (found.records_compared - 1) * record_size s })
      no_place

-- what the forwarding driver gets: answer x 2^32 + class
unfoldable pub driver_number : Answer → ℕ
driver_number a = a.number * 2 ^ 32 + a.class
