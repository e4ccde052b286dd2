-- Laws of search: over the bytes of a list's layout both search calls give what the plain ledger gives.
use mathlib.Core.Path.{◌≡◌, refl, ap, ◌∙◌}
use mathlib.Core.Bool.{Bool, true, false, cond}
use mathlib.Core.List.{List, map}
use mathlib.Core.Option.{Option, none, some}
use Prim.Native.Nat.{ℕ, ◌≤◌, ◌<◌, zero-le}
use native.Mathlib.Nat.{le_refl, le_trans}
use native.Mathlib.Omega.{arith}
use lib.Dec.{eqb, ltb, leb}
use borrow.Author.Tests.{ltb-false, le-ltb, leb-true, leb-false, eq-eqb, ne_eqb}
use lib.ListN.{length, get_or}
use Rattle.theory.specs.Lists.{any, all, least}
use Rattle.theory.specs.Records.{Record, count_of, records, find, comparisons}
use Rattle.theory.specs.Settings.{Card}
use Rattle.theory.specs.Placing.{clip, true_count, all_top, least_count, chosen, crowded, mark, bucket_records, side_records, side_need}
use Rattle.theory.specs.Layout.{places, counter_bytes, bucket_bytes, buckets_bytes, side_bytes}
use Rattle.theory.specs.Lookup.{answer, part, counter, Place, invalid, nowhere, among, bucket_part, side_place, bucket_place, by_counters, reads_bucket}
use Rattle.theory.specs.Lookup.{place, answer_at, part_at, search_areas, fetch_areas}
use Rattle.theory.specs.Ledger.{Seen, unseen, seen, answer_seen, seen_by, search_by}
use Rattle.theory.proofs.ListLaws.{either, by_test, All, all_map, any_none, any_cong, all_cong, filter_cong, map_cong, least_zero, least_top}
use Rattle.theory.proofs.ByteLaws.{Fit}
use Rattle.theory.proofs.SettingsLaws.{Sound}
use Rattle.theory.proofs.LayoutLaws.{read_places, read_place_bytes, read_count, after_count, read_counter, read_bucket, bucket_fits, bucket_fit}
use Rattle.theory.proofs.LayoutLaws.{side_fit}
use Rattle.theory.proofs.PlacingLaws.{found_in, clipped_in_range, clipped_all_top, clipped_chosen, chosen_below, lying, mark_crowded, found_where_looked}

either_if : {X : Type 0} {P : Type 0} (t : Bool) {a a' b b' : X} {u v : Bool}
    → (t ≡ true → (u ≡ true → P) → a ≡ a') → (t ≡ false → (v ≡ true → P) → b ≡ b') → (cond t u v ≡ true → P) → cond t a b ≡ cond t a' b'
either_if true f g h = f refl h
either_if false f g h = g refl h

-- a count that is not above T is T if it is at least T
not_above : (top n : ℕ) → ltb top n ≡ false → eqb n top ≡ leb top n
not_above top n e =
    by_test (leb top n) (λ q. rw q (eq-eqb n top (omega (arith, ltb-false top n e, leb-true top n q))))
    (λ q. rw q (ne_eqb n top (omega (arith, leb-false top n q))))

module _ (s : Card) where
  -- ---- with no counter above T, the least tells whether one is zero and whether all are T
  pub by_least : 0 < s.top → {X : Type 0} (c : ℕ → ℕ) (k : List ℕ) (refused absent side bucket : X)
      → by_counters s c k refused absent side bucket
      ≡ cond (any (λ b. ltb s.top (c b)) (s.numbers k)) refused
      (cond (eqb (least_count s c k) 0) absent (cond (eqb (least_count s c k) s.top) side bucket))
  unfolding by_counters least_count
  by_least one c k refused absent side bucket =
      let ns = s.numbers k in
      by_test (any (λ b. ltb s.top (c b)) ns) (λ e. rw e)
      (λ e. rw (
        e,
        least_zero c s.top ns one,
        all_cong (λ b. eqb (c b) s.top) (λ b. leb s.top (c b)) ns (all_map (λ b. not_above s.top (c b)) ns (any_none (λ b. ltb s.top (c b)) ns e)),
        least_top c s.top ns,
      ))

  -- ---- only the key's own counters matter
  pub chosen_cong : (f g : ℕ → ℕ) (k : List ℕ) → All (λ b. f b ≡ g b) (s.numbers k) → chosen s f k ≡ chosen s g k
  unfolding chosen least_count
  chosen_cong f g k h =
      rw (map_cong f g (s.numbers k) h)
      (ap (least s.buckets) (filter_cong _ _ (s.numbers k) (all_map (λ b e. ap (λ x. eqb x (least s.top (map g (s.numbers k)))) e) (s.numbers k) h)))

  pub by_counters_cong : {X : Type 0} (f g : ℕ → ℕ) (k : List ℕ) → All (λ b. f b ≡ g b) (s.numbers k) → (a b c d : X)
      → by_counters s f k a b c d ≡ by_counters s g k a b c d
  unfolding by_counters
  by_counters_cong f g k h a b c d =
      rw (any_cong (λ b. ltb s.top (f b)) (λ b. ltb s.top (g b)) (s.numbers k) (all_map (λ b e. ap (λ x. ltb s.top x) e) (s.numbers k) h))
      (rw (any_cong (λ b. eqb (f b) 0) (λ b. eqb (g b) 0) (s.numbers k) (all_map (λ b e. ap (λ x. eqb x 0) e) (s.numbers k) h))
      (rw (all_cong (λ b. eqb (f b) s.top) (λ b. eqb (g b) s.top) (s.numbers k) (all_map (λ b e. ap (λ x. eqb x s.top) e) (s.numbers k) h))))

  module _ (ok : Sound s) (c : ℕ → ℕ) (l : List Record) (fit : All (Fit s.width) l) (need : side_need s c l ≤ s.side_places) where
    -- ---- where a search of the layout ends up
    read_side : (n : ℕ) → side_place s (side_bytes s c l) n ≡ among (places s s.side_places (side_records s c l)) (length (side_records s c l)) n 1
    unfolding side_place side_bytes side_need
    read_side n =
        rw (read_count s s.side_places (side_records s c l) (omega (arith, ok.side_small)))
        (rw (le-ltb s.side_places (length (side_records s c l)) need, after_count))

    read_crowded : (b : ℕ) → crowded s c l b ≡ true → bucket_place s (bucket_bytes s c l b) (side_bytes s c l) ≡ side_place s (side_bytes s c l) 1
    unfolding bucket_place bucket_bytes
    read_crowded b e = rw (mark_crowded s ok c l b, e)

    read_one : (side : List ℕ) (b : ℕ) → crowded s c l b ≡ false
        → bucket_place s (bucket_bytes s c l b) side ≡ among (places s s.room (bucket_records s c l b)) (length (bucket_records s c l b)) 1 0
    unfolding bucket_place bucket_bytes
    read_one side b e =
        let m : mark s c l b ≡ length (bucket_records s c l b) = unfold mark in rw (e, lying s ok c l b e) in
        rw (mark_crowded s ok c l b, e, m, le-ltb s.room (length (bucket_records s c l b)) (bucket_fits s ok c l b))

    -- ---- either search call, F of a place, is H of the records that the placing says are comparisons
    module _ {X : Type 0} (F : Place → X) (H : Seen → X) (away : F nowhere ≡ H unseen)
        (here : (n : ℕ) (rs : List Record) (b z : ℕ) → All (Fit s.width) rs → F (among (places s n rs) (length rs) b z) ≡ H (seen rs b z)) (k : List ℕ) where
      agree : All (λ b. counter (counter_bytes s c) b ≡ clip s (c b)) (s.numbers k)
      agree = all_map (λ b h. read_counter s ok c b h) (s.numbers k) (ok.numbers_below k)

      at_side : (n : ℕ) → F (side_place s (side_bytes s c l) n) ≡ H (seen (side_records s c l) n 1)
      at_side n = rw (read_side n) (here s.side_places (side_records s c l) n 1 (side_fit s ok c l fit))

      at_one : all_top s c k ≡ false → F (bucket_place s (bucket_part s (buckets_bytes s c l) (chosen s c k)) (side_bytes s c l))
          ≡ H (cond (eqb (mark s c l (chosen s c k)) 255) (seen (side_records s c l) 1 1) (seen (bucket_records s c l (chosen s c k)) 1 0))
      at_one f =
          rw (read_bucket s ok c l fit (chosen s c k) (chosen_below s ok c k f), mark_crowded s ok c l (chosen s c k))
          (by_test (crowded s c l (chosen s c k)) (λ e. rw (e, read_crowded (chosen s c k) e) (at_side 1))
          (λ e. rw (e, read_one (side_bytes s c l) (chosen s c k) e)
          (here s.room (bucket_records s c l (chosen s c k)) 1 0 (bucket_fit s ok c l fit (chosen s c k)))))

      pub looked : F (place s (counter_bytes s c) (buckets_bytes s c l) (side_bytes s c l) k) ≡ H (seen_by s c l k)
      unfolding place seen_by
      looked =
          rw (chosen_cong (counter (counter_bytes s c)) (λ b. clip s (c b)) k agree, by_counters_cong (counter (counter_bytes s c)) (λ b. clip s (c b)) k agree)
          (unfold by_counters in rw (clipped_in_range s ok c k, clipped_all_top s ok c k)
          (either F H (any (λ b. eqb (clip s (c b)) 0) (s.numbers k)) (λ z. away)
          (λ z. either F H (all_top s c k) (λ f. at_side 0) (λ f. rw (clipped_chosen s ok c k f) (at_one f)))))

    -- THE CENTRAL THEOREM, for both search calls
    module _ (up : (b : ℕ) → true_count s l b ≤ c b) (k : List ℕ) where
      pub central : search_areas s (counter_bytes s c) (buckets_bytes s c l) (side_bytes s c l) k ≡ search_by s c l k
      unfolding search_areas search_by answer_at
      central =
          looked (answer_at s k) (λ v. answer_seen (found_in k v) k v) refl (λ n rs b z h. rw (read_places s n rs h)) k
          ∙ rw (found_where_looked s ok c l up k)

      pub central_bytes : fetch_areas s (counter_bytes s c) (buckets_bytes s c l) (side_bytes s c l) k ≡ part (find k l)
      unfolding fetch_areas part_at
      central_bytes =
          looked (part_at s k) (λ v. part (found_in k v)) refl (λ n rs b z h. read_place_bytes s k n rs h) k
          ∙ rw (found_where_looked s ok c l up k)

  -- ---- locality: on other areas with the same clipped counts and side store, and alike in the chosen bucket if one is read, a search comes to the same place
  pub local_place : (clipped side a b k : List ℕ)
      → (reads_bucket s clipped k ≡ true → bucket_part s a (chosen s (counter clipped) k) ≡ bucket_part s b (chosen s (counter clipped) k))
      → place s clipped a side k ≡ place s clipped b side k
  unfolding place reads_bucket by_counters
  local_place clipped side a b k =
      either_if (any (λ b. ltb s.top (counter clipped b)) (s.numbers k)) (λ e h. refl)
      (λ e. either_if (any (λ b. eqb (counter clipped b) 0) (s.numbers k)) (λ e h. refl)
      (λ e. either_if (all (λ b. eqb (counter clipped b) s.top) (s.numbers k)) (λ e h. refl) (λ e h. rw (h refl))))

  -- ---- at most one bucket is read
  abbrev reads : Place → ℕ
  reads invalid = 0
  reads nowhere = 0
  reads (among a n read z) = read

  side_reads : (side : List ℕ) (n : ℕ) → reads (side_place s side n) ≤ n
  unfolding side_place
  side_reads side n = by_test (ltb s.side_places (count_of side)) (λ e. rw e zero-le) (λ e. rw e (le_refl n))

  bucket_reads : (bucket side : List ℕ) → reads (bucket_place s bucket side) ≤ 1
  unfolding bucket_place
  bucket_reads bucket side =
      by_test (eqb (get_or bucket 0 0) 255) (λ e. rw e (side_reads side 1))
      (λ e. rw e (by_test (ltb s.room (get_or bucket 0 0)) (λ q. rw q zero-le) (λ q. rw q (le_refl 1))))

  place_reads : (clipped buckets side k : List ℕ) → reads (place s clipped buckets side k) ≤ 1
  unfolding place by_counters
  place_reads clipped buckets side k =
      by_test (any (λ b. ltb s.top (counter clipped b)) (s.numbers k)) (λ e. rw e zero-le)
      (λ e. rw e (by_test (any (λ b. eqb (counter clipped b) 0) (s.numbers k)) (λ z. rw z zero-le)
      (λ z. rw z (by_test (all (λ b. eqb (counter clipped b) s.top) (s.numbers k)) (λ f. rw f (le_trans (side_reads side 0) zero-le))
      (λ f. rw f (bucket_reads (bucket_part s buckets (chosen s (counter clipped) k)) side))))))

  answer_reads : (o : Option Record) (read compared z : ℕ) → (answer o read compared z).buckets_read ≡ read
  answer_reads none read compared z = refl
  answer_reads (some r) read compared z = refl

  pub search_reads : (clipped buckets side k : List ℕ) → (search_areas s clipped buckets side k).buckets_read ≤ 1
  unfolding search_areas answer_at
  search_reads clipped buckets side k = go (place s clipped buckets side k) (place_reads clipped buckets side k)
    where
      go : (x : Place) → reads x ≤ 1 → (answer_at s k x).buckets_read ≤ 1
      go invalid h = zero-le
      go nowhere h = zero-le
      go (among a n read z) h = rw (answer_reads (find k (records s.width n a)) read (comparisons k (records s.width n a)) z) h

  -- ---- an answer's number is at most 100
  answer_few : (o : Option Record) (read compared z : ℕ) → (answer o read compared z).number ≤ 100
  answer_few none read compared z = omega arith
  answer_few (some r) read compared z = omega arith

  pub search_few : (clipped buckets side k : List ℕ) → (search_areas s clipped buckets side k).number ≤ 100
  unfolding search_areas answer_at
  search_few clipped buckets side k = go (place s clipped buckets side k)
    where
      go : (x : Place) → (answer_at s k x).number ≤ 100
      go invalid = omega arith
      go nowhere = omega arith
      go (among a n read z) = answer_few (find k (records s.width n a)) read (comparisons k (records s.width n a)) z
