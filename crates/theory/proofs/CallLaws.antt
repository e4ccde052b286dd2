-- Laws of the calls on a card: on the layout of a list each call answers, and leaves the areas, as the plain ledger says.
use mathlib.Core.Path.{◌≡◌, refl, ap, ◌∙◌}
use mathlib.Core.Bool.{Bool, true, false, cond, not, ◌&&◌, ◌||◌, and-false}
use mathlib.Core.List.{List, [], ◌∷◌, ◌++◌, map, append_assoc}
use mathlib.Core.Option.{some}
use Prim.Native.Nat.{ℕ, zero, suc, ◌+◌, ◌-◌, ◌*◌, ◌≤◌, ◌<◌, zero-le, min}
use native.Mathlib.Nat.{le_refl, le_trans, mul_comm, mul-le-mul_right}
use native.Mathlib.Omega.{arith}
use lib.Dec.{eqb, ltb, leb}
use borrow.Author.Tests.{ltb-false, le-ltb, eqb-true, leb-false, not-false}
use lib.ListN.{length, take, drop, replicate, length-append, length-drop, length-map}
use lib.Seq.{drop_at}
use Rattle.theory.specs.Lists.{any, upto, flat}
use Rattle.theory.specs.Records.{Record, to_bytes, of_bytes, count_of, record_bytes, rising, same_key, find}
use Rattle.theory.specs.Settings.{Card, record_size, ledger_length, true_length, clipped_length, side_length}
use Rattle.theory.specs.Placing.{true_count, side_need, mark, side_records, clip, crowded, choosers}
use Rattle.theory.specs.Layout.{layout, layout_by, places, counted_places, counter_bytes, bucket_bytes, buckets_bytes, side_bytes}
use Rattle.theory.specs.Lookup.{part, counter, search_areas, fetch_areas}
use Rattle.theory.specs.Ledger.{Call, clear, add, change, remove, search, fetch, tally, held, insert, replace, without, key_wrong, side_need_of}
use Rattle.theory.specs.Ledger.{side_short, next, refusal, search_by, list_tally, updated, plain}
use Rattle.theory.specs.Calls.{ledger_records, ledger_invalid, update, marks, lookup_invalid, tally_areas, call, shown}
pub use Rattle.theory.specs.Demands.{Small, HasLayout, Sized}
use Rattle.theory.proofs.ListLaws.{map_all, all_of_map, by_test, or_left, or_right, All, all_every, all_map, all_drop, all_upto, any_false, map_cong}
use Rattle.theory.proofs.ListLaws.{filter_len, filter_all, length_flat, length_upto}
use Rattle.theory.proofs.SettingsLaws.{Sound}
use Rattle.theory.proofs.ByteLaws.{Byte, Fit, length_to_bytes, length_record, length_records, records_fit}
use Rattle.theory.proofs.LayoutLaws.{read_places, read_count, after_count, read_counter, read_bucket, length_counted, length_counters, length_buckets}
use Rattle.theory.proofs.LayoutLaws.{side_fit}
use Rattle.theory.proofs.PlacingLaws.{same_key_eq, mark_crowded}
use Rattle.theory.proofs.LookupLaws.{central, central_bytes}
use Rattle.theory.proofs.OrderLaws.{rising_insert, length_insert, insert_all, rising_filter, replace_key, rising_map}

-- a refusal that is 0: the test failed, and so did those after it
not_refused : (t : Bool) (n m : ℕ) → cond t (suc n) m ≡ 0 → (t ≡ false) × (m ≡ 0)
not_refused true n m e = absurd (omega arith)
not_refused false n m e = (refl, e)

no_zeros : (n : ℕ) → any (λ x. not (eqb x 0)) (replicate n 0) ≡ false
no_zeros zero = refl
no_zeros (suc n) = no_zeros n

module _ (s : Card) where
  -- a key that a list of such records has is as wide as theirs
  pub found_width : (k : List ℕ) (r : Record) (l : List Record) → All (Fit s.width) l → find k l ≡ some r → length k ≡ s.width
  found_width k r [] h e = let z : ◌≡◌ {A = ℕ} 0 1 = cc in absurd (omega arith)
  found_width k r (x ∷ xs) h e =
      by_test (same_key k x.key) (λ q. ap length (same_key_eq k x.key q) ∙ h.0.wide) (λ q. found_width k r xs h.1 (rw q at e))

  pub enough : (l : List Record) → side_short s l ≡ false → side_need_of s l ≤ s.side_places
  unfolding side_short
  enough l e = ltb-false s.side_places (side_need_of s l) e

  pub not_enough : (l : List Record) → side_need_of s l ≤ s.side_places → side_short s l ≡ false
  unfolding side_short
  not_enough l h = le-ltb s.side_places (side_need_of s l) h

  -- a ledger area within the rules: what its test says, and that its list has a layout where its side need allows
  pub record Valid (a : List ℕ) : Type 0 where
    pub few : count_of a ≤ s.capacity
    pub order : rising (ledger_records s a) ≡ true
    pub clear_after : any (λ x. not (eqb x 0)) (drop (2 + record_size s * count_of a) a) ≡ false

  pub valid : (a : List ℕ) → ledger_invalid s a ≡ false → Valid a
  unfolding ledger_invalid
  valid a e =
      let many = ltb s.capacity (count_of a) in
      let after = any (λ x. not (eqb x 0)) (drop (2 + record_size s * count_of a) a) in
      let first : (many || not (rising (ledger_records s a))) ≡ false = or_left _ after e in
      record {
        few = ltb-false s.capacity (count_of a) (or_left many _ first);
        order = not-false (rising (ledger_records s a)) (or_right many _ first);
        clear_after = or_right (many || not (rising (ledger_records s a))) after e;
      }

  pub valid_has_layout : (a : List ℕ) → All Byte a → length a ≡ ledger_length s → ledger_invalid s a ≡ false → side_short s (ledger_records s a) ≡ false
      → HasLayout s (ledger_records s a)
  unfolding ledger_records ledger_length record_size
  valid_has_layout a bytes size e short =
      let v = valid a e in
      let room : count_of a * (s.width + 4) ≤ s.capacity * (s.width + 4) = mul-le-mul_right (s.width + 4) v.few in
      record {
        fit = records_fit s.width (count_of a) (drop 2 a) (rw length-drop (omega (arith, size, mul_comm s.capacity (s.width + 4))))
            (all_drop Byte 2 a bytes);
        order = v.order;
        few = rw length_records v.few;
        need = enough (ledger_records s a) short;
      }

  module _ (ok : Sound s) where
    pub sized : (l : List Record) → HasLayout s l → Sized s (layout s l)
    unfolding layout layout_by side_need_of side_need side_bytes ledger_length true_length clipped_length side_length
    sized l g =
        let c : ℕ → ℕ = true_count s l in
        record {
          ledger = length_counted s s.capacity l g.fit g.few;
          true_counts = rw (length-map, length_upto);
          clipped_counts = length_counters s ok c;
          buckets = length_buckets s ok c l g.fit;
          side_store = length_counted s s.side_places (side_records s c l) (side_fit s ok c l g.fit) g.need;
        }

    -- ---- the ledger area of a layout is read back
    module _ (l : List Record) (g : HasLayout s l) where
      count_back : of_bytes (take 2 (counted_places s s.capacity l)) ≡ length l
      count_back = read_count s s.capacity l (omega (arith, g.few, ok.capacity_small))

      pub ledger_back : ledger_records s (counted_places s s.capacity l) ≡ l
      unfolding ledger_records
      ledger_back = rw (count_back, after_count, read_places s s.capacity l g.fit)

      tail_back : drop (2 + record_size s * length l) (counted_places s s.capacity l) ≡ replicate (record_size s * (s.capacity - length l)) 0
      unfolding counted_places places record_size
      tail_back =
          rw (← append_assoc)
          (drop_at (to_bytes 2 (length l) ++ flat record_bytes l) (replicate (record_size s * (s.capacity - length l)) 0) (2 + record_size s * length l)
          (rw (length-append, length_to_bytes, length_flat record_bytes (s.width + 4) l (all_map (λ r f. length_record s.width r f) l g.fit))))

      pub not_invalid : ledger_invalid s (counted_places s s.capacity l) ≡ false
      unfolding ledger_invalid
      not_invalid = rw (ledger_back, count_back, tail_back, le-ltb s.capacity (length l) g.few, g.order)
          (no_zeros (record_size s * (s.capacity - length l)))

    -- ---- an accepted update keeps a list good
    pub has_layout_empty : HasLayout s []
    unfolding side_need_of side_need side_records
    has_layout_empty = record { fit = tt; order = refl; few = zero-le; need = zero-le }

    width_of : (k : List ℕ) → key_wrong s k ≡ false → length k ≡ s.width
    unfolding key_wrong
    width_of k e = eqb-true (length k) s.width (not-false (eqb (length k) s.width) e)

    kept : (c : Call) (l : List Record) → Small c → HasLayout s l → refusal s c l ≡ 0 → HasLayout s (next s c l)
    unfolding next refusal replace without
    kept clear l m g e = has_layout_empty
    kept (add k x) l m g e =
        let r : Record = record { key = k; class = x } in
        let w = not_refused (key_wrong s k) 2 _ e in
        let h = not_refused (held k l) 5 _ w.1 in
        let n = not_refused (leb s.capacity (length l)) 7 _ h.1 in
        let d = not_refused (side_short s (insert r l)) 8 _ n.1 in
        record {
          fit = insert_all (Fit s.width) r l (record { wide = width_of k w.0; small = m }) g.fit;
          order = rising_insert r l h.0 g.order;
          few = rw length_insert (leb-false s.capacity (length l) n.0);
          need = enough (insert r l) d.0;
        }
    kept (change k x) l m g e =
        let r : Record = record { key = k; class = x } in
        let w = not_refused (key_wrong s k) 2 _ e in
        let h = not_refused (not (held k l)) 6 _ w.1 in
        let d = not_refused (side_short s (replace r l)) 8 _ h.1 in
        record {
          fit = map_all (Fit s.width) (λ y. cond (same_key k y.key) r y)
              (λ y f. by_test (same_key k y.key) (λ e. rw e (record { wide = width_of k w.0; small = m })) (λ e. rw e f)) l g.fit;
          order = rising_map (λ y. cond (same_key k y.key) r y) (replace_key r) l ∙ g.order;
          few = rw length-map g.few;
          need = enough (replace r l) d.0;
        }
    kept (remove k) l m g e =
        let w = not_refused (key_wrong s k) 2 _ e in
        let h = not_refused (not (held k l)) 6 _ w.1 in
        let d = not_refused (side_short s (without k l)) 8 _ h.1 in
        record {
          fit = filter_all (Fit s.width) (λ r. not (same_key k r.key)) l g.fit;
          order = rising_filter (λ r. not (same_key k r.key)) l g.order;
          few = le_trans (filter_len (λ r. not (same_key k r.key)) l) g.few;
          need = enough (without k l) d.0;
        }
    kept (search k) l m g e = g
    kept (fetch k) l m g e = g
    kept tally l m g e = g

    updated_stays : (c : Call) (l : List Record) → Small c → HasLayout s l → HasLayout s (updated s c l).state
    unfolding updated
    updated_stays c l m g = by_test (eqb (refusal s c l) 0) (λ e. rw e (kept c l m g (eqb-true (refusal s c l) 0 e))) (λ e. rw e g)

    pub stays : (c : Call) (l : List Record) → Small c → HasLayout s l → HasLayout s (plain s c l).state
    unfolding plain
    stays clear l m g = has_layout_empty
    stays (add k x) l m g = updated_stays (add k x) l m g
    stays (change k x) l m g = updated_stays (change k x) l m g
    stays (remove k) l m g = updated_stays (remove k) l m g
    stays (search k) l m g = g
    stays (fetch k) l m g = g
    stays tally l m g = g

    -- ---- one call
    update_step : (k : List ℕ) (c : Call) (l : List Record) → HasLayout s l → (key_wrong s k ≡ true → refusal s c l ≡ 3)
        → update s k c (layout s l) ≡ shown s (updated s c l)
    unfolding update updated
    update_step k c l g three =
        by_test (key_wrong s k) (λ e. rw (e, three e))
        (λ e. rw (e, at_ledger (λ a. ledger_invalid s a), at_ledger (λ a. ledger_records s a), not_invalid l g, ledger_back l g)
        (by_test (eqb (refusal s c l) 0) (λ z. rw z) (λ z. rw z)))
      where
        at_ledger : {X : Type 0} (f : List ℕ → X) → f (layout s l).ledger ≡ f (counted_places s s.capacity l)
        at_ledger f = unfold layout layout_by in refl

    -- tally: what it reads is in range, and is what the placing says
    module _ (c : ℕ → ℕ) (l : List Record) where
      marks_back : All (Fit s.width) l → marks s (buckets_bytes s c l) ≡ map (mark s c l) (upto 0 s.buckets)
      unfolding marks bucket_bytes
      marks_back fit = map_cong _ _ (upto 0 s.buckets) (all_upto 0 s.buckets (λ b h. rw (read_bucket s ok c l fit b (omega arith))))

      mark_range : (b : ℕ) → (ltb s.room (mark s c l b) && not (eqb (mark s c l b) 255)) ≡ false
      mark_range b =
          by_test (crowded s c l b) (λ e. rw (mark_crowded s ok c l b, e) (and-false (ltb s.room (mark s c l b))))
          (λ e. let m : mark s c l b ≡ length (choosers s c l b) = unfold mark in rw e in
          let h : length (choosers s c l b) ≤ s.room = unfold crowded in ltb-false s.room (length (choosers s c l b)) e in
          rw (m, le-ltb s.room (length (choosers s c l b)) h))

      counter_range : (b : ℕ) → b < s.buckets → ltb s.top (counter (counter_bytes s c) b) ≡ false
      unfolding clip
      counter_range b h = rw (read_counter s ok c b h) (le-ltb s.top (min (c b) s.top) (omega arith))

    tallied : (l : List Record) → HasLayout s l → tally_areas s (layout s l) ≡ list_tally s l
    unfolding tally_areas list_tally lookup_invalid layout layout_by side_need_of side_need side_bytes
    tallied l g =
        let c : ℕ → ℕ = true_count s l in
        rw (
          not_invalid l g,
          marks_back c l g.fit,
          any_false _ (upto 0 s.buckets) (all_upto 0 s.buckets (λ b h. counter_range c l b (omega arith))),
          any_false _ (map (mark s c l) (upto 0 s.buckets))
              (all_of_map _ (mark s c l) (upto 0 s.buckets) (all_every (mark_range c l) (upto 0 s.buckets))),
          read_count s s.side_places (side_records s c l) (omega (arith, g.need, ok.side_small)),
          le-ltb s.side_places (length (side_records s c l)) g.need,
          count_back l g,
        )

    module _ (k : List ℕ) (l : List Record) (g : HasLayout s l) where
      pub searched : search_areas s (layout s l).clipped_counts (layout s l).buckets (layout s l).side_store k ≡ search_by s (true_count s l) l k
      unfolding layout layout_by side_need_of
      searched = central s ok (true_count s l) l g.fit g.need (λ b. le_refl (true_count s l b)) k

      pub fetched : fetch_areas s (layout s l).clipped_counts (layout s l).buckets (layout s l).side_store k ≡ part (find k l)
      unfolding layout layout_by side_need_of
      fetched = central_bytes s ok (true_count s l) l g.fit g.need (λ b. le_refl (true_count s l b)) k

    pub call_step : (c : Call) (l : List Record) → HasLayout s l → call s c (layout s l) ≡ shown s (plain s c l)
    unfolding call plain
    call_step clear l g = refl
    call_step (add k x) l g = update_step k (add k x) l g (λ e. unfold refusal in rw e)
    call_step (change k x) l g = update_step k (change k x) l g (λ e. unfold refusal in rw e)
    call_step (remove k) l g = update_step k (remove k) l g (λ e. unfold refusal in rw e)
    call_step (search k) l g = rw (searched k l g)
    call_step (fetch k) l g = rw (fetched k l g)
    call_step tally l g = rw (tallied l g)
