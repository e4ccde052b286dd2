-- The bucket area while it is written: a crowded bucket has its mark from the start, and the mark of another counts its records up.
use Rattle.std.specs.Prelude.{Bool, cond, List, [], ◌∷◌, ◌++◌, ℕ, ◌+◌, ◌*◌, ltb, length, take, drop, get_or, set}
use Rattle.theory.specs.Lists.{flat, upto}
use Rattle.theory.specs.Records.{Record, records}
use Rattle.theory.specs.Settings.{Card}
use Rattle.theory.specs.Placing.{choosers}
use Rattle.theory.specs.Layout.{places}
use Rattle.placing.specs.declared.Placement.{Placement}
use Rattle.placing.specs.Worked.{nth}

-- bucket b is crowded, by how many keys choose each
abbrev pub crowded_by : Card → List ℕ → ℕ → Bool
crowded_by s choosers b = ltb s.room (nth choosers b)

-- bucket b with no record yet, and the first m buckets so
unfoldable pub blank_bucket : Card → (ℕ → Bool) → ℕ → List ℕ
blank_bucket s crowd b = cond (crowd b) 255 0 ∷ places s s.room []

unfoldable pub blank_buckets : Card → (ℕ → Bool) → ℕ → List ℕ
blank_buckets s crowd m = flat (blank_bucket s crowd) (upto 0 m)

-- bucket b with those records of l that choose it, and all buckets so
unfoldable pub growing_bucket : Card → (ℕ → Bool) → (ℕ → ℕ) → List Record → ℕ → List ℕ
growing_bucket s crowd c l b = cond (crowd b) (255 ∷ places s s.room []) (length (choosers s c l b) ∷ places s s.room (choosers s c l b))

unfoldable pub growing_buckets : Card → (ℕ → Bool) → (ℕ → ℕ) → List Record → List ℕ
growing_buckets s crowd c l = flat (growing_bucket s crowd c l) (upto 0 s.buckets)

-- the bucket area of the first i records of an area, by what placing left behind
abbrev pub placed : Card → Placement → ℕ → List ℕ → List ℕ
placed s p i area = growing_buckets s (crowded_by s p.choosers.now) (nth p.counts.now) (records s.width i area)

-- a bucket's part with one record more: its bytes at the place that the mark counts, and the mark one up
abbrev pub appended : List ℕ → List ℕ → List ℕ
appended part bytes =
    let at = 1 + length bytes * get_or part 0 0 in set (take at part ++ (bytes ++ drop (length bytes) (drop at part))) 0 (get_or part 0 0 + 1)
