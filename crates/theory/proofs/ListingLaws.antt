-- Laws of search in the order of the published listing: its answer is search's. By the counters alone that is `by_least`; the rest is a walk through the tests.
use mathlib.Core.Path.{◌≡◌, refl}
use mathlib.Core.Bool.{cond}
use mathlib.Core.List.{List}
use Prim.Native.Nat.{ℕ}
use lib.Dec.{eqb, ltb}
use lib.ListN.{get_or}
use Rattle.theory.specs.Lists.{any}
use Rattle.theory.specs.Records.{count_of}
use Rattle.theory.specs.Settings.{allowed, Card, card_of}
use Rattle.theory.specs.Placing.{least_count, chosen}
use Rattle.theory.specs.Lookup.{bare, counter, bucket_part, side_place, bucket_place, place, answer_at, search_areas}
use Rattle.theory.specs.Ledger.{search}
use Rattle.theory.specs.Listing.{least_counter, smallest_index, mark_of, items, member, refused_where, counter_above, member_of_side, search_item}
use Rattle.theory.specs.Listing.{Listed, SearchInOrder}
use Rattle.theory.proofs.ListLaws.{by_test}
use Rattle.theory.proofs.SettingsLaws.{sound}
use Rattle.theory.proofs.LookupLaws.{by_least}
use Rattle.theory.proofs.Demands.{search_reply, reads_keep}

module _ (s : Card) (clipped buckets side x : List ℕ) where
  -- membership in the side store, and in bucket i
  in_side : (read : ℕ) → member_of_side s clipped buckets side x read ≡ answer_at s x (side_place s side read)
  unfolding member_of_side member refused_where side_place answer_at
  in_side read = by_test (ltb s.side_places (count_of side)) (λ e. rw e) (λ e. rw e)

  in_bucket : (i : ℕ)
      → cond (eqb (mark_of s clipped buckets side x i) 255) (member_of_side s clipped buckets side x 1)
      (cond (ltb s.room (mark_of s clipped buckets side x i)) (bare 5) (member s clipped buckets side x (items s clipped buckets side x i) 1 0))
      ≡ answer_at s x (bucket_place s (bucket_part s buckets i) side)
  unfolding mark_of items member bucket_place answer_at
  in_bucket i =
      let mark = get_or (bucket_part s buckets i) 0 0 in
      by_test (eqb mark 255) (λ e. rw e (in_side 1)) (λ e. rw e (by_test (ltb s.room mark) (λ f. rw f) (λ f. rw f)))

pub listed : Listed
unfolding search_item least_counter smallest_index counter_above refused_where search_areas place answer_at least_count chosen
listed s one clipped buckets side x =
    let c_min = least_count s (counter clipped) x in
    rw (by_least s one (counter clipped) x _ _ _ _)
    (by_test (any (λ b. ltb s.top (counter clipped b)) (s.numbers x)) (λ e. rw e)
    (λ e. rw e (by_test (eqb c_min 0) (λ z. rw z)
    (λ z. rw z (by_test (eqb c_min s.top) (λ f. rw f (in_side s clipped buckets side x 0))
    (λ f. rw f (in_bucket s clipped buckets side x (chosen s (counter clipped) x))))))))

pub search_in_order : SearchInOrder
search_in_order t w x a =
    rw (search_reply t w x a, reads_keep t w (search x) a refl)
    (by_test (allowed t) (λ e. rw (e, listed (card_of t) (sound t e).top_some a.clipped_counts a.buckets a.side_store x)) (λ e. rw e))
