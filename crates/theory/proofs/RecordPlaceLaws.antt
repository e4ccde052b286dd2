-- Laws of where a record lies: the bytes that the second search call hands back are those of its area from its start on, and they lie inside the area.
use mathlib.Core.Path.{◌≡◌, refl, sym, ap, ◌∙◌}
use mathlib.Core.Bool.{Bool, true, false, cond, false≢true}
use mathlib.Core.List.{List, [], ◌∷◌}
use mathlib.Core.Option.{Option, none, some}
use Prim.Native.Nat.{ℕ, zero, suc, ◌+◌, ◌-◌, ◌*◌, ◌≤◌, ◌<◌, zero-le, max}
use native.Mathlib.Nat.{mul_comm, suc-mul, mul-le-mul_right, le-max_left, le-max_right}
use native.Mathlib.Omega.{arith}
use lib.Dec.{eqb, ltb}
use borrow.Author.Tests.{eq-eqb, ne_eqb, ltb-false}
use lib.ListN.{length, take, drop, get_or}
use lib.Seq.{take-take, drop-drop}
use Rattle.theory.specs.Lists.{any, all}
use Rattle.theory.specs.Records.{Record, record_at, entries, records, count_of, same_key, find, comparisons, find_bytes}
use Rattle.theory.specs.Settings.{Card, record_size, bucket_size, buckets_length, side_length}
use Rattle.theory.specs.Placing.{all_top, least_count, chosen}
use Rattle.theory.specs.Lookup.{Answer, answer, counter, Place, invalid, nowhere, among, no_place, bucket_part, side_place, bucket_place, by_counters}
use Rattle.theory.specs.Lookup.{reads_bucket, goes_to_bucket, place, answer_at, part_at, search_areas, fetch_areas, record_place}
use Rattle.theory.proofs.ListLaws.{by_test, and_left}
use Rattle.theory.proofs.ByteLaws.{length_records}
use Rattle.theory.proofs.SettingsLaws.{Sound}
use Rattle.theory.proofs.PlacingLaws.{all_top_least, chosen_below}
use Rattle.theory.proofs.LookupLaws.{by_least}

-- a part of a part
part_of_part : (size at len : ℕ) (l : List ℕ) → at + size ≤ len → take size (drop at (take len l)) ≡ take size (drop at l)
part_of_part size zero len l h = take-take size len l (omega arith)
part_of_part size (suc at) zero l h = absurd (omega arith)
part_of_part size (suc at) (suc len) [] h = refl
part_of_part size (suc at) (suc len) (x ∷ xs) h = part_of_part size at len xs (omega arith)

-- the last of some pieces
pub one_back : (n z : ℕ) → 0 < n → n * z ≡ (n - 1) * z + z
one_back zero z h = absurd (omega arith)
one_back (suc n) z h = let e : suc n - 1 ≡ n = omega arith in rw e (omega arith)

-- ---- the key's record among records: as many are compared as stand up to it
module _ (k : List ℕ) where
  compared_some : (l : List Record) (read n z : ℕ) → (answer (find k l) read n z).number ≡ 0 → 1 ≤ comparisons k l
  compared_some [] read n z e = absurd (omega arith)
  compared_some (r ∷ l) read n z e = by_test (same_key k r.key) (λ q. rw q (omega arith)) (λ q. rw q (omega arith))

  compared_few : (l : List Record) → comparisons k l ≤ length l
  compared_few [] = omega arith
  compared_few (r ∷ l) = by_test (same_key k r.key) (λ q. rw q (omega arith)) (λ q. rw q (omega (arith, compared_few l)))

  module _ (w : ℕ) where
    next : (c : ℕ) → 1 ≤ c → w + 4 + (c - 1) * (w + 4) ≡ (suc c - 1) * (w + 4)
    next c h = let e : suc c - 1 ≡ c = omega arith in rw e (omega (arith, one_back c (w + 4) h))

    bytes_found : (n : ℕ) (a : List ℕ) (read m z : ℕ) → (answer (find k (records w n a)) read m z).number ≡ 0
        → find_bytes w n a k ≡ take (w + 4) (drop ((comparisons k (records w n a) - 1) * (w + 4)) a)
    unfolding find_bytes records entries record_at
    bytes_found zero a read m z e = absurd (omega arith)
    bytes_found (suc n) a read m z e =
        by_test (same_key k (take w a)) (λ q. let none_before : (1 - 1) * (w + 4) ≡ 0 = omega arith in rw (q, none_before))
        (λ q. let e' = rw q at e in
        let c = comparisons k (records w n (drop (w + 4) a)) in
        rw q (bytes_found n (drop (w + 4) a) read m z e'
        ∙ ap (take (w + 4)) (drop-drop ((c - 1) * (w + 4)) (w + 4) a
        ∙ ap (λ (x : ℕ). drop x a) (next c (compared_some (records w n (drop (w + 4) a)) read m z e')))))

    bytes_none : (n : ℕ) (a : List ℕ) (read m z : ℕ) → ((answer (find k (records w n a)) read m z).number ≡ 0 → ⊥) → find_bytes w n a k ≡ []
    unfolding find_bytes records entries record_at
    bytes_none zero a read m z e = refl
    bytes_none (suc n) a read m z e =
        by_test (same_key k (take w a)) (λ q. absurd ((rw q at e) refl)) (λ q. rw q (bytes_none n (drop (w + 4) a) read m z (rw q at e)))

answer_compared : (o : Option Record) (read compared z : ℕ) → (answer o read compared z).records_compared ≡ compared
answer_compared none read compared z = refl
answer_compared (some r) read compared z = refl

-- a search that finds the key has compared a record
pub compared_one : (s : Card) (k : List ℕ) (x : Place) → (answer_at s k x).number ≡ 0 → 1 ≤ (answer_at s k x).records_compared
unfolding answer_at
compared_one s k invalid e = absurd (omega arith)
compared_one s k nowhere e = absurd (omega arith)
compared_one s k (among a n read z) e =
    let l = records s.width n a in
    rw (answer_compared (find k l) read (comparisons k l) z) (compared_some k l read (comparisons k l) z e)

module _ (s : Card) (clipped buckets side k : List ℕ) where
  abbrev b : ℕ
  b = chosen s (counter clipped) k

  abbrev in_bucket : Bool
  in_bucket = goes_to_bucket s clipped buckets k

  abbrev found : Answer
  found = search_areas s clipped buckets side k

  -- ---- where the records stand that a search compares: in the bucket, at most B, or in the side store, at most S
  abbrev From : Bool → Place → Type 0
  From g invalid = Unit {0}
  From g nowhere = Unit {0}
  From g (among a n read z) = (a ≡ cond g (drop 1 (bucket_part s buckets b)) (drop 2 side)) × (n ≤ cond g s.room s.side_places)

  side_from : (n : ℕ) → From false (side_place s side n)
  unfolding side_place
  side_from n = by_test (ltb s.side_places (count_of side)) (λ e. rw e tt) (λ e. rw e (refl, ltb-false _ _ e))

  from : From in_bucket (place s clipped buckets side k)
  unfolding place goes_to_bucket reads_bucket by_counters bucket_place
  from =
      by_test (any (λ b. ltb s.top (counter clipped b)) (s.numbers k)) (λ e. rw e tt)
      (λ e. rw e (by_test (any (λ b. eqb (counter clipped b) 0) (s.numbers k)) (λ z. rw z tt)
      (λ z. rw z (by_test (all (λ b. eqb (counter clipped b) s.top) (s.numbers k)) (λ f. rw f (side_from 0))
      (λ f. rw f (by_test (eqb (get_or (bucket_part s buckets b) 0 0) 255) (λ m. rw m (side_from 1))
      (λ m. rw m (by_test (ltb s.room (get_or (bucket_part s buckets b) 0 0)) (λ q. rw q tt) (λ q. rw q (refl, ltb-false _ _ q))))))))))

  -- ---- so no search compares more records than a bucket or the side store has places
  pub search_compares : found.records_compared ≤ max s.room s.side_places
  unfolding search_areas answer_at
  search_compares = go in_bucket (place s clipped buckets side k) from
    where
      either_place : (g : Bool) → cond g s.room s.side_places ≤ max s.room s.side_places
      either_place true = le-max_left s.room s.side_places
      either_place false = le-max_right s.room s.side_places

      go : (g : Bool) (x : Place) → From g x → (answer_at s k x).records_compared ≤ max s.room s.side_places
      go g invalid f = zero-le
      go g nowhere f = zero-le
      go g (among a n read z) f =
          let l = records s.width n a in
          rw (answer_compared (find k l) read (comparisons k l) z)
          (omega (arith, compared_few k l, length_records s.width n a, f.1, either_place g))

  -- ---- the record found, so many bytes after the first
  abbrev after : Place → ℕ
  after x = ((answer_at s k x).records_compared - 1) * record_size s

  after_inside : (g : Bool) (x : Place) → From g x → (answer_at s k x).number ≡ 0 → after x + record_size s ≤ record_size s * cond g s.room s.side_places
  unfolding answer_at record_size
  after_inside g invalid f e = absurd (omega arith)
  after_inside g nowhere f e = absurd (omega arith)
  after_inside g (among a n read z) f e =
      let l = records s.width n a in
      let c = comparisons k l in
      let most = cond g s.room s.side_places in
      let few : c ≤ most = omega (arith, compared_few k l, length_records s.width n a, f.1) in
      rw (answer_compared (find k l) read c z)
      (omega (arith, one_back c (s.width + 4) (compared_some k l read c z e), mul-le-mul_right (s.width + 4) few, mul_comm most (s.width + 4)))

  bytes_at : (g : Bool) (x : Place) → From g x → (answer_at s k x).number ≡ 0
      → part_at s k x ≡ take (record_size s) (drop (after x) (cond g (drop 1 (bucket_part s buckets b)) (drop 2 side)))
  unfolding answer_at part_at record_size
  bytes_at g invalid f e = absurd (omega arith)
  bytes_at g nowhere f e = absurd (omega arith)
  bytes_at g (among a n read z) f e =
      let l = records s.width n a in
      rw (answer_compared (find k l) read (comparisons k l) z, ← f.0) (bytes_found k s.width n a read (comparisons k l) z e)

  -- the same from the start of the area
  in_area : (g : Bool) (at : ℕ) → at + record_size s ≤ record_size s * cond g s.room s.side_places
      → take (record_size s) (drop at (cond g (drop 1 (bucket_part s buckets b)) (drop 2 side)))
      ≡ take (record_size s) (drop (cond g (b * bucket_size s + 1) 2 + at) (cond g buckets side))
  unfolding bucket_part bucket_size
  in_area true at h =
      let z = 1 + record_size s * s.room in
      let e : b * z + (1 + at) ≡ b * z + 1 + at = omega arith in
      ap (take (record_size s)) (drop-drop at 1 (take z (drop (b * z) buckets)))
      ∙ part_of_part (record_size s) (1 + at) z (drop (b * z) buckets) (omega arith)
      ∙ ap (take (record_size s)) (drop-drop (1 + at) (b * z) buckets ∙ ap (λ (x : ℕ). drop x buckets) e)
  in_area false at h = ap (take (record_size s)) (drop-drop at 2 side)

  -- ---- held: the bytes are those of the record's area from its start on
  same_area : {X : Type 0} (g : Bool) (x y : X) → cond (eqb (cond g 1 2) 1) x y ≡ cond g x y
  same_area true x y = refl
  same_area false x y = refl

  pub held_bytes : found.number ≡ 0 → fetch_areas s clipped buckets side k
      ≡ take (record_size s) (drop (record_place s clipped buckets side k).start (cond (eqb (record_place s clipped buckets side k).area 1) buckets side))
  unfolding record_place search_areas fetch_areas
  held_bytes e =
      let x = place s clipped buckets side k in
      rw (eq-eqb (answer_at s k x).number 0 e, same_area in_bucket buckets side)
      (bytes_at in_bucket x from e ∙ in_area in_bucket (after x) (after_inside in_bucket x from e))

  some_area : (g : Bool) → ◌≡◌ {A = ℕ} (cond g 1 2) 0 → ⊥
  some_area true e = omega arith
  some_area false e = omega arith

  pub held_area : found.number ≡ 0 → (record_place s clipped buckets side k).area ≡ 0 → ⊥
  unfolding record_place
  held_area e away = some_area in_bucket (rw (eq-eqb found.number 0 e) at away)

  -- not held: the place is 0 and 0, and the part empty
  no_part : (x : Place) → ((answer_at s k x).number ≡ 0 → ⊥) → part_at s k x ≡ []
  unfolding answer_at part_at
  no_part invalid n = refl
  no_part nowhere n = refl
  no_part (among a m read z) n = bytes_none k s.width m a read (comparisons k (records s.width m a)) z n

  pub not_held : (found.number ≡ 0 → ⊥) → (record_place s clipped buckets side k ≡ no_place) × (fetch_areas s clipped buckets side k ≡ [])
  unfolding record_place search_areas fetch_areas
  not_held n = let x = place s clipped buckets side k in (rw (ne_eqb (answer_at s k x).number 0 n), no_part x n)

  -- ---- held: the record lies inside its area
  module _ (ok : Sound s) where
    not_top : reads_bucket s clipped k ≡ true → all_top s (counter clipped) k ≡ false
    unfolding reads_bucket
    not_top h =
        let c = counter clipped in
        all_top_least s c k
        ∙ last_test (any (λ b. ltb s.top (c b)) (s.numbers k)) (eqb (least_count s c k) 0) (eqb (least_count s c k) s.top)
        (sym (by_least s ok.top_some c k false false false true) ∙ h)
      where
        last_test : (x y z : Bool) → cond x false (cond y false (cond z false true)) ≡ true → z ≡ false
        last_test true x y e = absurd (false≢true e)
        last_test false true y e = absurd (false≢true e)
        last_test false false true e = absurd (false≢true e)
        last_test false false false e = refl

    bucket_there : in_bucket ≡ true → b < s.buckets
    unfolding goes_to_bucket
    bucket_there g = chosen_below s ok (counter clipped) k (not_top (and_left _ _ g))

    first_inside : (g : Bool) (at : ℕ) → in_bucket ≡ g → at + record_size s ≤ record_size s * cond g s.room s.side_places
        → cond g (b * bucket_size s + 1) 2 + at + record_size s ≤ cond g (buckets_length s) (side_length s)
    unfolding buckets_length side_length bucket_size
    first_inside true at g h =
        let z = 1 + record_size s * s.room in
        omega (arith, suc-mul b z, mul-le-mul_right z (bucket_there g))
    first_inside false at g h = omega arith

    pub held_inside : found.number ≡ 0
        → (record_place s clipped buckets side k).start + record_size s
        ≤ cond (eqb (record_place s clipped buckets side k).area 1) (buckets_length s) (side_length s)
    unfolding record_place search_areas
    held_inside e =
        let x = place s clipped buckets side k in
        rw (eq-eqb (answer_at s k x).number 0 e, same_area in_bucket (buckets_length s) (side_length s))
        (first_inside in_bucket (after x) refl (after_inside in_bucket x from e))
