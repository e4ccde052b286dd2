-- Document 01, 'Placing': which records lie in which bucket and which in the side store. Every definition takes the card s, and those that place take a
-- counter c b for each bucket b: in the base its true count.
use Rattle.std.specs.Prelude.{Bool, cond, not, ◌&&◌, ◌||◌, List, [], map, ℕ, min, leb, ltb, eqb, length}
use Rattle.theory.specs.Lists.{filter, all, has, least}
use Rattle.theory.specs.Records.{Record}
use Rattle.theory.specs.Settings.{Card}

module _ (s : Card) where
  -- the true count of bucket b: how many held keys have its number among theirs
  unfoldable pub true_count : List Record → ℕ → ℕ
  true_count l b = length (filter (λ r. has b (s.numbers r.key)) l)

  -- the clipped count: the smaller of the true count and T
  unfoldable pub clip : ℕ → ℕ
  clip n = min n s.top

  module _ (c : ℕ → ℕ) where
    -- all counts of the key are T or more
    unfoldable pub all_top : List ℕ → Bool
    all_top k = all (λ b. leb s.top (c b)) (s.numbers k)

    -- the least count of the key, T where none is below T; and of its numbers with the least count, the lowest
    unfoldable pub least_count : List ℕ → ℕ
    least_count k = least s.top (map c (s.numbers k))

    unfoldable pub chosen : List ℕ → ℕ
    chosen k = least s.buckets (filter (λ b. eqb (c b) (least_count k)) (s.numbers k))

    -- a key whose counts are not all T or more chooses
    unfoldable pub chooses : ℕ → List ℕ → Bool
    chooses b k = not (all_top k) && eqb b (chosen k)

    module _ (l : List Record) where
      -- the records whose keys choose bucket b, in key order; more than B of them: the bucket is crowded
      unfoldable pub choosers : ℕ → List Record
      choosers b = filter (λ r. chooses b r.key) l

      unfoldable pub crowded : ℕ → Bool
      crowded b = ltb s.room (length (choosers b))

      unfoldable pub mark : ℕ → ℕ
      mark b = cond (crowded b) 255 (length (choosers b))

      -- the records that lie in bucket b
      unfoldable pub bucket_records : ℕ → List Record
      bucket_records b = cond (crowded b) [] (choosers b)

      -- the keys that belong to the side: those whose counts are all T or more, and those that chose a crowded bucket
      unfoldable pub belongs_to_side : List ℕ → Bool
      belongs_to_side k = all_top k || crowded (chosen k)

      unfoldable pub side_records : List Record
      side_records = filter (λ r. belongs_to_side r.key) l

      unfoldable pub side_need : ℕ
      side_need = length side_records
