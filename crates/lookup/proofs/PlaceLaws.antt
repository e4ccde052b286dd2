-- Laws of where a search looks: each test of the code is the definition's.
use mathlib.Core.Path.{◌≡◌, refl, sym, ap, ◌∙◌, subst}
use mathlib.Core.Bool.{Bool, true, false, not, ◌&&◌, false≢true}
use mathlib.Core.List.{List, [], ◌∷◌}
use Prim.Native.Nat.{ℕ, zero, suc, ◌+◌, ◌-◌, ◌*◌, ◌≤◌, ◌<◌}
use native.Mathlib.Nat.{add-zero, mul_comm, mul-le-mul_right}
use native.Mathlib.Omega.{arith}
use lib.Dec.{eqb, ltb}
use borrow.Author.Tests.{lt-ltb, le-ltb, eq-eqb, ne_eqb}
use lib.ListN.{length, take, drop, get_or, length-drop}
use lib.Seq.{get_or-take, get_or-drop, drop-drop}
use Rattle.std.specs.Prelude.{Option}
use Rattle.theory.specs.Lists.{any, all}
use Rattle.theory.specs.Hash.{H, numbers_of}
use Rattle.theory.specs.Records.{class_width, count_of}
use Rattle.theory.specs.Settings.{Settings, Card, allowed, card_of, record_size, bucket_size, buckets_length}
use Rattle.theory.specs.Placing.{all_top, least_count, chosen}
use Rattle.theory.specs.Lookup as plain
use Rattle.theory.specs.Lookup.{counter, bare, bucket_part, side_place, bucket_place, by_counters, reads_bucket}
use Rattle.theory.specs.Lookup.{goes_to_bucket, place, answer_at, search_areas, record_place}
use Rattle.theory.proofs.ListLaws.{by_test}
use Rattle.theory.proofs.SettingsLaws.{ranges, Sound, sound, numbers_of_below}
use Rattle.theory.proofs.PlacingLaws.{all_top_least, chosen_below}
use Rattle.theory.proofs.LookupLaws.{by_least}
use Rattle.memory.proofs.SliceLaws.{length_part, lent_is}
use Rattle.settings.proofs.Laws.{width_is, room_is, record_size_is, bucket_size_is, side_length_is, bounds}
use Rattle.lookup.specs.declared.counters.KeyCounters.{KeyCounters}
use Rattle.lookup.specs.Scanning.{Scannable, AllScannable}
use Rattle.lookup.specs.Choosing.{card_at, key_counters_at, bucket_of}
use Rattle.lookup.specs.declared.places.Place.{Place}
use Rattle.lookup.specs.declared.places.Place.TheVariants.{Invalid, Nowhere, Bucket, Side}
use Rattle.lookup.specs.Places.{CheckedLookup, CheckedPlaces, Inside, by_choice, place_by, goes_by}
use Rattle.lookup.specs.Places.{KeyCountersFit, Goes, LooksAt, InBucket, InSide, ByPlace}

-- ---- the side store
module _ {t : Settings} {buckets side : List ℕ} {b : ℕ} where
  pub side_invalid : (read : ℕ) → t.side_places < count_of side → LooksAt t buckets side (side_place (card_of t) side read) b false Invalid
  unfolding side_place card_of
  side_invalid read h = record { looks = record { is = rw (lt-ltb t.side_places (count_of side) h); inside = tt }; goes = tt }

  pub side_among : (n read : ℕ) → n ≡ count_of side → n ≤ t.side_places → read ≤ 1
      → LooksAt t buckets side (side_place (card_of t) side read) b false (Side n read)
  unfolding side_place card_of
  side_among n read e h once =
      record { looks = record { is = rw (e, le-ltb t.side_places (count_of side) (omega arith)); inside = (h, once) }; goes = refl }

-- ---- a bucket: its mark, and what stands after it
drop_one : (n : ℕ) (l : List ℕ) → drop 1 (take n l) ≡ take (n - 1) (drop 1 l)
drop_one zero [] = refl
drop_one zero (x ∷ xs) = refl
drop_one (suc n) [] = let e : suc n - 1 ≡ n = omega arith in rw e (sym (nothing n))
  where
    nothing : (n : ℕ) → ◌≡◌ {A = List ℕ} (take n []) []
    nothing zero = refl
    nothing (suc n) = refl
drop_one (suc n) (x ∷ xs) = let e : suc n - 1 ≡ n = omega arith in rw e

-- bucket b starts at a byte of the buckets, which is its mark
pub record MarkAt (t : Settings) (buckets : List ℕ) (b at : ℕ) : Type 0 where
  pub ok : allowed t ≡ true
  pub start : at ≡ b * bucket_size (card_of t)

module _ {t : Settings} {buckets : List ℕ} {b at : ℕ} (m : MarkAt t buckets b at) where
  pub mark_is : get_or (bucket_part (card_of t) buckets b) 0 0 ≡ get_or buckets at 0
  unfolding bucket_part
  mark_is =
      let size = bounds t m.ok in
      get_or-take (bucket_size (card_of t)) (drop (b * bucket_size (card_of t)) buckets) 0 0 (omega arith)
      ∙ get_or-drop (b * bucket_size (card_of t)) buckets 0 0
      ∙ rw (add-zero, m.start)

  after_mark : drop 1 (bucket_part (card_of t) buckets b) ≡ take (bucket_size (card_of t) - 1) (drop (at + 1) buckets)
  unfolding bucket_part
  after_mark =
      drop_one (bucket_size (card_of t)) (drop (b * bucket_size (card_of t)) buckets) ∙ rw (drop-drop 1 (b * bucket_size (card_of t)) buckets, m.start)

  -- what a look at it comes to, by the tests of the mark
  abbrev Read : List ℕ → Place → Type 0
  Read side r =
      LooksAt t buckets side (bucket_place (card_of t) (bucket_part (card_of t) buckets b) side) b
      (not (eqb (get_or (bucket_part (card_of t) buckets b) 0 0) 255)) r

  module _ {side : List ℕ} where
    pub sent_on : get_or buckets at 0 ≡ 255 → {r : Place} → LooksAt t buckets side (side_place (card_of t) side 1) b false r → Read side r
    unfolding bucket_place
    sent_on e l = rw (mark_is, eq-eqb (get_or buckets at 0) 255 e) l

    module _ (ne : get_or buckets at 0 ≡ 255 → ⊥) where
      pub bucket_invalid : t.room < get_or buckets at 0 → Read side Invalid
      unfolding bucket_place card_of
      bucket_invalid h =
          record {
            looks = record { is = rw (mark_is, ne_eqb (get_or buckets at 0) 255 ne, lt-ltb t.room (get_or buckets at 0) h); inside = tt };
            goes = tt;
          }

      pub bucket_among : get_or buckets at 0 ≤ t.room → at + 1 + (bucket_size (card_of t) - 1) ≤ buckets_length (card_of t)
          → Read side (Bucket (at + 1) (get_or buckets at 0))
      unfolding bucket_place
      bucket_among h inside =
          record {
            looks = record {
              is = rw (mark_is, after_mark, ne_eqb (get_or buckets at 0) 255 ne, room_is t, le-ltb t.room (get_or buckets at 0) h);
              inside = (inside, h);
            };
            goes = (rw (mark_is, ne_eqb (get_or buckets at 0) 255 ne), ap (λ (x : ℕ). x + 1) m.start);
          }

-- ---- a bucket after its mark, as it is lent
pub bucket_lent : (t : Settings) (from : ℕ) (buckets : List ℕ) {size : ℕ} → size ≡ bucket_size (card_of t)
    → take (from + (size - 1) - from) (drop from buckets) ≡ take (bucket_size (card_of t) - 1) (drop from buckets)
bucket_lent t from buckets e = lent_is from _ _ _ buckets _ refl (ap (λ (z : ℕ). z - 1) e) refl

-- ---- what is compared may be scanned: a bucket after its mark, and the side store after its count
pub bucket_scannable : {t : Settings} {buckets key : List ℕ} {from n : ℕ} → InBucket t buckets key from n
    → AllScannable (take (bucket_size (card_of t) - 1) (drop from buckets)) n t.room key
bucket_scannable {t} {buckets} {key} {from} p =
    let wide = p.wide ∙ width_is t in
    let r = ranges t p.ok in
    let size : record_size (card_of t) ≡ length key + class_width = record_size_is t ∙ rw wide in
    record {
      fits = rw (length_part from (bucket_size (card_of t) - 1) buckets p.inside, bucket_size_is t, size, mul_comm (length key + class_width) t.room)
          (omega arith);
      long = omega (arith, wide, r.width_low);
      short = omega (arith, wide, r.width_high);
      few = p.few;
      some = r.room_low;
      most = omega (arith, r.room_high);
    }

-- as many of its places as have records
pub all_scannable : {place key : List ℕ} {n room : ℕ} → AllScannable place n room key → Scannable place n key × (n ≤ 4096)
all_scannable {place} {key} {n} {room} p =
    let there : n * (length key + class_width) ≤ room * (length key + class_width) = mul-le-mul_right (length key + class_width) p.few in
    (record { fits = omega (arith, there, p.fits); short = p.short }, omega (arith, p.few, p.most))

module _ {t : Settings} {side key : List ℕ} {n : ℕ} (p : InSide t side key n) where
  pub side_counted : 2 ≤ length side
  side_counted = omega (arith, (bounds t p.ok).side_least, p.side_size)

  pub side_scannable : Scannable (drop 2 side) n key × (n ≤ 4096)
  side_scannable =
      let wide = p.wide ∙ width_is t in
      let one : record_size (card_of t) ≡ length key + class_width = record_size_is t ∙ rw wide in
      let size : length side ≡ 2 + t.side_places * (length key + class_width) =
      p.side_size ∙ side_length_is t ∙ rw (one, mul_comm (length key + class_width) t.side_places) in
      let r = ranges t p.ok in
      let there : n * (length key + class_width) ≤ t.side_places * (length key + class_width) = mul-le-mul_right (length key + class_width) p.few in
      (record { fits = rw (length-drop, size) (omega (arith, there)); short = omega (arith, wide, r.width_high) }, omega (arith, p.few, r.side_high))

-- ---- by the counters
module _ (t : Settings) (ok : allowed t ≡ true) (h : ℕ) where
  sound_at : Sound (card_at t h)
  unfolding card_at
  sound_at =
      let s = sound t ok in
      record {
        even = s.even;
        top_some = s.top_some;
        top_four_bits = s.top_four_bits;
        room_small = s.room_small;
        capacity_small = s.capacity_small;
        side_small = s.side_small;
        numbers_below = λ key. numbers_of_below (card_of t).buckets t.k h (let b = bounds t ok in omega arith);
      }

  -- unless the least is T, the chosen bucket is one of the card's
  module _ (clipped key : List ℕ) (e : least_count (card_at t h) (counter clipped) key ≡ t.top → ⊥) where
    not_all : all_top (card_at t h) (counter clipped) key ≡ false
    unfolding card_at card_of
    not_all = all_top_least (card_at t h) (counter clipped) key ∙ ne_eqb _ t.top e

    chosen_there : chosen (card_at t h) (counter clipped) key < (card_of t).buckets
    unfolding card_at
    chosen_there = chosen_below (card_at t h) sound_at (counter clipped) key not_all

-- a last test in the place of a bucket
by_last : (s : Card) (c : ℕ → ℕ) (k : List ℕ) (x : Bool) → by_counters s c k false false false x ≡ (by_counters s c k false false false true && x)
unfolding by_counters
by_last s c k x =
    by_test (any (λ b. ltb s.top (c b)) (s.numbers k)) (λ a. rw a) (λ a. rw a (by_test (any (λ b. eqb (c b) 0) (s.numbers k)) (λ z. rw z)
    (λ z. rw z (by_test (all (λ b. eqb (c b) s.top) (s.numbers k)) (λ e. rw e) (λ e. rw e)))))

-- ---- what the code found of the counters is where the definition looks
module _ (t : Settings) (h : ℕ) (clipped : List ℕ) (ok : allowed t ≡ true) where
  abbrev above : Bool
  above = any (λ b. ltb t.top (counter clipped b)) (numbers_of (card_of t).buckets t.k h)

  abbrev found : Option KeyCounters
  found = key_counters_at t clipped h

  pub key_counters_fit : KeyCountersFit t found
  unfolding key_counters_at
  key_counters_fit = by_test above (λ a. rw a tt) (λ a. rw a (λ e. chosen_there t ok h clipped [] e))

  module _ (key : List ℕ) where
    abbrev chosen_of : ℕ
    chosen_of = chosen (card_at t h) (counter clipped) key

    -- by `by_least` the least tells what the definition asks of all counters
    by_choice_is : {X : Type 0} (refused absent side : X) (bucket : ℕ → X) → by_choice (card_of t) found refused absent side (bucket (bucket_of found))
        ≡ by_counters (card_at t h) (counter clipped) key refused absent side (bucket chosen_of)
    unfolding key_counters_at card_at card_of chosen least_count
    by_choice_is refused absent side bucket =
        let whole = by_least (card_at t h) (sound_at t ok h).top_some (counter clipped) key refused absent side (bucket chosen_of) in
        by_test above (λ a. rw a (sym (rw a at whole))) (λ a. rw a (sym (rw a at whole)))

    module _ (buckets side : List ℕ) where
      pub place_by_is : place_by (card_of t) found buckets side ≡ place (card_at t h) clipped buckets side key
      unfolding place_by place card_at side_place bucket_place bucket_part bucket_size record_size
      place_by_is = by_choice_is _ _ _ (λ (b : ℕ). bucket_place (card_of t) (bucket_part (card_of t) buckets b) side)

      goes_by_is : goes_by (card_of t) found buckets ≡ goes_to_bucket (card_at t h) clipped buckets key
      unfolding goes_by goes_to_bucket reads_bucket card_at bucket_part bucket_size record_size
      goes_by_is =
          by_choice_is false false false (λ (b : ℕ). not (eqb (get_or (bucket_part (card_of t) buckets b) 0 0) 255))
          ∙ by_last (card_at t h) (counter clipped) key _

      bucket_is : goes_by (card_of t) found buckets ≡ true → bucket_of found ≡ chosen_of
      unfolding goes_by key_counters_at chosen least_count card_at
      bucket_is e = by_test above (λ a. absurd (false≢true (rw a at e))) (λ a. rw a)

      goes_on : (r : Place) → Goes (card_of t) (bucket_of found) (goes_by (card_of t) found buckets) r
          → Goes (card_of t) chosen_of (goes_to_bucket (card_at t h) clipped buckets key) r
      goes_on Invalid g = tt
      goes_on Nowhere g = tt
      goes_on (Bucket from n) g = (sym goes_by_is ∙ g.0, g.1 ∙ ap (λ (b : ℕ). b * bucket_size (card_of t) + 1) (bucket_is g.0))
      goes_on (Side n read) g = sym goes_by_is ∙ g

      pub looks_by : {r : Place} → LooksAt t buckets side (place_by (card_of t) found buckets side) (bucket_of found) (goes_by (card_of t) found buckets) r
          → LooksAt t buckets side (place (card_at t h) clipped buckets side key) chosen_of (goes_to_bucket (card_at t h) clipped buckets key) r
      looks_by {r} l = record { looks = rw (← place_by_is) l.looks; goes = goes_on r l.goes }

pub places_of : {t : Settings} {clipped buckets side : List ℕ} → CheckedLookup t clipped buckets side → CheckedPlaces t buckets side
places_of l = record { ok = l.ok; buckets_size = l.buckets_size; side_size = l.side_size }

-- ---- the match over the place where a search looks: what each arm may compare
module _ {t : Settings} {r : Place} {buckets side key : List ℕ} (l : ByPlace t r buckets side key) where
  pub in_bucket : {from n : ℕ} → r ≡ Bucket from n → InBucket t buckets key from n
  in_bucket e =
      let i = subst (Inside t) e l.inside in
      let size = l.checked.buckets_size in
      record { ok = l.checked.ok; buckets_size = size; wide = l.wide; inside = rw size i.0; few = i.1 }

  pub in_side : {n read : ℕ} → r ≡ Side n read → InSide t side key n
  in_side e =
      let i = subst (Inside t) e l.inside in
      record { ok = l.checked.ok; side_size = l.checked.side_size; wide = l.wide; few = i.0 }

-- ---- the answer of the place where a search of a key with this H ends
pub search_is : (t : Settings) (h : ℕ) (clipped buckets side key : List ℕ) (x : plain.Place) → x ≡ place (card_at t h) clipped buckets side key
    → answer_at (card_of t) key x ≡ search_areas (card_at t h) clipped buckets side key
unfolding search_areas answer_at card_at
search_is t h clipped buckets side key x e = rw (← e)

-- ---- with its own H, a key is looked for as the card says
module _ (t : Settings) (clipped buckets side key : List ℕ) where
  search_by_H : search_areas (card_at t (H key)) clipped buckets side key ≡ search_areas (card_of t) clipped buckets side key
  unfolding search_areas answer_at place by_counters side_place bucket_place bucket_part chosen least_count bucket_size record_size card_at card_of
  search_by_H = refl

  pub hashed : (h : ℕ) → h ≡ H key → search_areas (card_at t h) clipped buckets side key ≡ search_areas (card_of t) clipped buckets side key
  hashed h e = ap (λ (x : ℕ). search_areas (card_at t x) clipped buckets side key) e ∙ search_by_H

  place_by_H : record_place (card_at t (H key)) clipped buckets side key ≡ record_place (card_of t) clipped buckets side key
  unfolding goes_to_bucket reads_bucket by_counters bucket_part chosen least_count bucket_size record_size record_place card_at card_of
  place_by_H = rw search_by_H

  pub place_hashed : (h : ℕ) → h ≡ H key → record_place (card_at t h) clipped buckets side key ≡ record_place (card_of t) clipped buckets side key
  place_hashed h e = ap (λ (x : ℕ). record_place (card_at t x) clipped buckets side key) e ∙ place_by_H
