-- Laws of placing: clipped counts choose as the counts do; a held key has no zero counter; a key's record lies where the key is looked for.
use mathlib.Core.Path.{◌≡◌, refl, sym, ap, ◌∙◌}
use mathlib.Core.Logic.{◌≢◌, ◌⊎◌, inl, inr}
use mathlib.Core.Bool.{Bool, true, false, cond, ◌&&◌, true≢false, false≢true}
use mathlib.Core.List.{List, [], ◌∷◌}
use mathlib.Core.Option.{Option, none, some}
use Prim.Native.Nat.{ℕ, ◌≤◌, ◌<◌, min}
use native.Mathlib.Nat.{le_trans}
use native.Mathlib.Omega.{arith}
use lib.Dec.{eqb, ltb, leb}
use borrow.Author.Tests.{ltb-false, le-ltb, eqb-true, eqb-false, eq-eqb, ne_eqb, leb-true, leb-false}
use lib.ListN.{length}
use Rattle.theory.specs.Lists.{filter, any, all, has, least}
use Rattle.theory.specs.Records.{Record, find, same_key}
use Rattle.theory.specs.Settings.{Card}
use Rattle.theory.specs.Placing.{clip, true_count, all_top, least_count, chosen, chooses, choosers, crowded, mark, bucket_records, belongs_to_side}
use Rattle.theory.specs.Placing.{side_records}
use Rattle.theory.specs.Ledger.{Seen, unseen, seen, seen_by}
use Rattle.theory.proofs.ListLaws.{by_test, All, all_every, all_map, all_cong, filter_cong, any_false, filter_first, filter_grows, all_has, least_clip}
use Rattle.theory.proofs.ListLaws.{least_top, least_lt, attained, least_filter}
use Rattle.theory.proofs.SettingsLaws.{Sound}

-- ---- tests of a clipped number
clip_eq : (n t m : ℕ) → m < t → eqb (min n t) m ≡ eqb n m
clip_eq n t m h = go (eqb n m) refl
  where
    go : (b : Bool) → eqb n m ≡ b → eqb (min n t) m ≡ b
    go true e = eq-eqb (min n t) m (omega (arith, eqb-true n m e))
    go false e = let q : n ≢ m = eqb-false n m e in ne_eqb (min n t) m (omega arith)

clip_top : (n t : ℕ) → eqb (min n t) t ≡ leb t n
clip_top n t = go (leb t n) refl
  where
    go : (b : Bool) → leb t n ≡ b → eqb (min n t) t ≡ b
    go true e = eq-eqb (min n t) t (omega (arith, leb-true t n e))
    go false e = ne_eqb (min n t) t (omega (arith, leb-false t n e))

-- all counts of a key are T or more just where the least is T
pub all_top_least : (s : Card) (c : ℕ → ℕ) (k : List ℕ) → all_top s c k ≡ eqb (least_count s c k) s.top
unfolding all_top least_count
all_top_least s c k = least_top c s.top (s.numbers k)

-- equal keys
pub same_key_eq : (a b : List ℕ) → same_key a b ≡ true → a ≡ b
same_key_eq [] [] e = refl
same_key_eq [] (y ∷ ys) e = absurd (false≢true e)
same_key_eq (x ∷ xs) [] e = absurd (false≢true e)
same_key_eq (x ∷ xs) (y ∷ ys) e = go (eqb x y) refl e (λ f. same_key_eq xs ys f)
  where
    go : (t : Bool) → eqb x y ≡ t → (t && same_key xs ys) ≡ true → (same_key xs ys ≡ true → xs ≡ ys) → x ∷ xs ≡ y ∷ ys
    go true q f r = rw (eqb-true x y q, r f)
    go false q f r = absurd (false≢true f)

-- a test of keys that k passes does not hide k
pub find_filter : (p : List ℕ → Bool) (k : List ℕ) → p k ≡ true → (l : List Record) → find k (filter (λ r. p r.key) l) ≡ find k l
find_filter p k e [] = refl
find_filter p k e (r ∷ rs) = go (same_key k r.key) refl (p r.key) refl (find_filter p k e rs)
  where
    go : (t : Bool) → same_key k r.key ≡ t → (u : Bool) → p r.key ≡ u → find k (filter (λ r. p r.key) rs) ≡ find k rs
        → find k (cond u (r ∷ filter (λ r. p r.key) rs) (filter (λ r. p r.key) rs)) ≡ cond t (some r) (find k rs)
    go t q true v i = rw (q, i)
    go true q false v i = absurd (true≢false (sym e ∙ ap p (same_key_eq k r.key q) ∙ v))
    go false q false v i = i

-- the key's record among those that a search compares
abbrev pub found_in : List ℕ → Seen → Option Record
found_in k unseen = none
found_in k (seen l read side) = find k l

module _ (s : Card) where
  -- ---- a held key has no zero counter
  pub held_counted : (k : List ℕ) (l : List Record) → (find k l ≡ none) ⊎ All (λ b. 0 < true_count s l b) (s.numbers k)
  unfolding true_count
  held_counted k [] = inl refl
  held_counted k (r ∷ rs) = go (same_key k r.key) refl (held_counted k rs)
    where
      go : (t : Bool) → same_key k r.key ≡ t → (find k rs ≡ none) ⊎ All (λ b. 0 < true_count s rs b) (s.numbers k)
          → (cond t (some r) (find k rs) ≡ none) ⊎ All (λ b. 0 < true_count s (r ∷ rs) b) (s.numbers k)
      go true q i =
          inr (rw (same_key_eq k r.key q)
          (all_map (λ b e. filter_first (λ r. has b (s.numbers r.key)) r rs e) (s.numbers r.key) (all_has (s.numbers r.key))))
      go false q (inl e) = inl e
      go false q (inr a) = inr (all_map (λ b h. le_trans h (filter_grows (λ r. has b (s.numbers r.key)) r rs)) (s.numbers k) a)

  module _ (ok : Sound s) (c : ℕ → ℕ) where
    abbrev clipped : ℕ → ℕ
    clipped b = clip s (c b)

    -- ---- clipped counts tell what counts tell
    pub clipped_in_range : (k : List ℕ) → any (λ b. ltb s.top (clipped b)) (s.numbers k) ≡ false
    unfolding clip
    clipped_in_range k = any_false _ (s.numbers k) (all_every (λ b. le-ltb s.top (min (c b) s.top) (omega arith)) (s.numbers k))

    pub clipped_all_top : (k : List ℕ) → all (λ b. eqb (clipped b) s.top) (s.numbers k) ≡ all_top s c k
    unfolding clip all_top
    clipped_all_top k = all_cong _ _ (s.numbers k) (all_every (λ b. clip_top (c b) s.top) (s.numbers k))

    pub clipped_chosen : (k : List ℕ) → all_top s c k ≡ false → chosen s clipped k ≡ chosen s c k
    unfolding clip all_top chosen least_count
    clipped_chosen k e =
        rw (least_clip c s.top (s.numbers k))
        (ap (least s.buckets) (filter_cong _ _ (s.numbers k)
        (all_every (λ b. clip_eq (c b) s.top _ (least_lt c s.top (s.numbers k) e)) (s.numbers k))))

    pub chosen_below : (k : List ℕ) → all_top s c k ≡ false → chosen s c k < s.buckets
    unfolding all_top chosen least_count
    chosen_below k e =
        least_filter s.buckets _ (s.numbers k) (attained c s.top _ (s.numbers k) refl (least_lt c s.top (s.numbers k) e)) (ok.numbers_below k)

    -- ---- where a key's record lies
    module _ (l : List Record) where
      pub find_side : (k : List ℕ) → belongs_to_side s c l k ≡ true → find k (side_records s c l) ≡ find k l
      unfolding side_records
      find_side k e = find_filter (belongs_to_side s c l) k e l

      pub find_bucket : (k : List ℕ) → all_top s c k ≡ false → find k (choosers s c l (chosen s c k)) ≡ find k l
      unfolding choosers chooses
      find_bucket k e = find_filter (chooses s c (chosen s c k)) k (rw (e, eq-eqb (chosen s c k) (chosen s c k) refl)) l

      -- ---- the records that lie in a bucket that is not crowded
      pub lying : (b : ℕ) → crowded s c l b ≡ false → bucket_records s c l b ≡ choosers s c l b
      unfolding bucket_records
      lying b e = rw e

      -- ---- the mark tells what is crowded
      pub mark_crowded : (b : ℕ) → eqb (mark s c l b) 255 ≡ crowded s c l b
      unfolding mark crowded
      mark_crowded b = go (crowded s c l b) refl
        where
          go : (t : Bool) → crowded s c l b ≡ t → eqb (cond t 255 (length (choosers s c l b))) 255 ≡ t
          go true e = refl
          go false e = ne_eqb (length (choosers s c l b)) 255 (omega (arith, ltb-false s.room (length (choosers s c l b)) e, ok.room_small))

      -- ---- a key is found where it is looked for: what a search compares holds the key's record, if the list does
      pub absent : ((b : ℕ) → true_count s l b ≤ c b) → (k : List ℕ) → any (λ b. eqb (clipped b) 0) (s.numbers k) ≡ true → find k l ≡ none
      unfolding clip
      absent up k e = go (held_counted k l)
        where
          go : (find k l ≡ none) ⊎ All (λ b. 0 < true_count s l b) (s.numbers k) → find k l ≡ none
          go (inl q) = q
          go (inr a) =
              absurd (true≢false (sym e ∙ any_false _ (s.numbers k)
              (all_map (λ b h. ne_eqb (min (c b) s.top) 0 (omega (arith, up b, ok.top_some))) (s.numbers k) a)))

      pub found_where_looked : ((b : ℕ) → true_count s l b ≤ c b) → (k : List ℕ) → found_in k (seen_by s c l k) ≡ find k l
      unfolding seen_by
      found_where_looked up k =
          rw (clipped_all_top k)
          (by_test (any (λ b. eqb (clipped b) 0) (s.numbers k)) (λ z. rw z (sym (absent up k z)))
          (λ z. rw z (by_test (all_top s c k) (λ f. rw f (find_side k (unfold belongs_to_side in rw f)))
          (λ f. rw (f, clipped_chosen k f, mark_crowded (chosen s c k))
          (by_test (crowded s c l (chosen s c k)) (λ e. rw e (find_side k (unfold belongs_to_side in rw (f, e))))
          (λ e. rw (e, lying (chosen s c k) e) (find_bucket k f)))))))
