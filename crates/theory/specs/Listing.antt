-- Document 02, U6: search in the order of the published listing, over the lookup areas with any contents. The listing is SearchItem of the Basic Fast Hash
-- Table (source document 001, section 2.1):
--
--   1. C_min = min{C_h1(x), .., C_hk(x)}
--   2. if (C_min == 0)
--   3.   return false
--   4. else
--   5.   i = SmallestIndexOf(C_min)
--   6.   if (x ∈ X^i) return true
--   7.   else return false
--
-- x is the key, C the clipped counts, X^i the records of bucket i. Of Lookup.antt the definition takes what an answer, a counter and a bucket's part are, and
-- nothing of how search is defined there.
use Rattle.std.specs.Prelude.{◌≡◌, Bool, cond, not, List, map, ℕ, ◌<◌, eqb, ltb, drop, get_or}
use Rattle.std.proofs.Math.Option.{none}
use Rattle.theory.specs.Lists.{filter, any, all, least}
use Rattle.theory.specs.Records.{Record, records, count_of, find, comparisons}
use Rattle.theory.specs.Settings.{Settings, allowed, Card, card_of}
use Rattle.theory.specs.Layout.{Areas}
use Rattle.theory.specs.Lookup.{Answer, bare, answer, counter, bucket_part, search_areas}
use Rattle.theory.specs.Ledger.{search, answered, key_wrong}
use Rattle.theory.specs.Calls.{lookup_lengths, perform}

module _ (s : Card) (clipped buckets side x : List ℕ) where
  -- line 1, the least counter of the key: T where no counter is below T
  unfoldable pub least_counter : ℕ
  least_counter = least s.top (map (counter clipped) (s.numbers x))

  -- line 5, "picking the minimum value counter with the smallest index"
  unfoldable pub smallest_index : ℕ → ℕ
  smallest_index c_min = least s.buckets (filter (λ b. eqb (counter clipped b) c_min) (s.numbers x))

  -- line 6, X^i: so many records as the mark of bucket i says
  unfoldable pub mark_of : ℕ → ℕ
  mark_of i = get_or (bucket_part s buckets i) 0 0

  unfoldable pub items : ℕ → List Record
  items i = records s.width (mark_of i) (drop 1 (bucket_part s buckets i))

  -- lines 6 and 7, "comparing it with each item in the list of items": from the first up to the equal one or the last; with so many buckets read, and 1 where
  -- the items are the side store's
  unfoldable pub member : List Record → ℕ → ℕ → Answer
  member list read side_compared = answer (find x list) read (comparisons x list) side_compared

  -- ---- ADDED to the listing: "5, in what a search .. reads, a clipped count above T, a mark above B other than 255, a side count above S" (document 01)
  unfoldable pub refused_where : Bool → Answer → Answer
  refused_where damaged found = cond damaged (bare 5) found

  unfoldable pub counter_above : Bool
  counter_above = any (λ b. ltb s.top (counter clipped b)) (s.numbers x)

  -- membership in the side store, with so many buckets read before: "a least of T or a mark 255 goes to the side store" (document 02)
  unfoldable pub member_of_side : ℕ → Answer
  member_of_side read = refused_where (ltb s.side_places (count_of side)) (member (records s.width (count_of side) (drop 2 side)) read 1)

  -- ---- the listing
  unfoldable pub search_item : Answer
  search_item =
      -- 1. C_min = min{C_h1(x), .., C_hk(x)}
      let c_min = least_counter in
      -- added: a counter of the key above T is 5
      refused_where counter_above
      -- 2. if (C_min == 0)
      (cond (eqb c_min 0)
      -- 3.   return false
      (answer none 0 0 0)
      -- 4. else
      -- 5.   i = SmallestIndexOf(C_min)
      (let i = smallest_index c_min in
      -- added: a least of T or a mark 255 goes to the side store
      cond (eqb c_min s.top) (member_of_side 0)
      (cond (eqb (mark_of i) 255) (member_of_side 1)
      -- added: another mark above B is 5
      (refused_where (ltb s.room (mark_of i))
      -- 6.   if (x ∈ X^i) return true
      -- 7.   else return false
      (member (items i) 1 0)))))

-- ---- WHAT IS CLAIMED. The laws of these names are in proofs/ListingLaws.antt
-- listed: on every card whose T is at least 1, so on every card of allowed settings, and on every contents, the listing's whole answer is search's
abbrev pub Listed : Type 0
Listed = (s : Card) → 0 < s.top → (clipped buckets side x : List ℕ) → search_item s clipped buckets side x ≡ search_areas s clipped buckets side x

-- search_in_order: the search call is, on every input, 1, 2, 3 and then the listing, with the areas as they were
abbrev pub SearchInOrder : Type 0
SearchInOrder =
    (t : Settings) (w : ℕ) (x : List ℕ) (a : Areas)
    → perform t w (search x) a
    ≡ record {
      reply = answered
          (cond (not (allowed t)) (bare 1)
          (cond (not (all (λ ok. ok) (lookup_lengths (card_of t) a))) (bare 2)
          (cond (key_wrong (card_of t) x) (bare 3) (search_item (card_of t) a.clipped_counts a.buckets a.side_store x))));
      state = a;
    }
