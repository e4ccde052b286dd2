-- A key's counters, ranked: the least of counter and bucket number as one number has the least counter and the lowest bucket with it, and repeated hashes
-- alter nothing. For any counters; the loops over a key's hashes in placing and in search cite these laws.
use mathlib.Core.Path.{◌≡◌, refl, sym, subst, ◌∙◌}
use mathlib.Core.Bool.{Bool, true, false, ◌||◌, or_assoc, or-false, true≢false}
use mathlib.Core.List.{List, [], ◌∷◌, map}
use Prim.Native.Nat.{ℕ, suc, ◌+◌, ◌-◌, ◌*◌, ◌/◌, ◌%◌, ◌^◌, ◌≤◌, ◌<◌, min}
use native.Mathlib.Numerals.{add-one}
use native.Mathlib.Nat.{div-one, div-div-eq-div-mul}
use native.Mathlib.Omega.{arith}
use lib.Dec.{eqb, ltb}
use lib.Pow.{pow-add}
use borrow.Author.Tests.{ltb-true, ltb-false, eqb-true, eqb-false, eq-eqb, ne_eqb}
use Rattle.theory.specs.Lists.{filter, any, has, least, fresh, upto}
use Rattle.theory.specs.Hash.{hash, hashes, numbers_of}
use Rattle.theory.specs.Settings.{Card}
use Rattle.theory.specs.Placing.{least_count, chosen}
use Rattle.theory.proofs.ListLaws.{by_test, All, least_le}
use Rattle.theory.proofs.SettingsLaws.{numbers_of_below}

-- ---- hashes from j up to k
pub hashes_next : (m h j k : ℕ) → j < k → hashes m h j k ≡ hash m h j ∷ hashes m h (j + 1) k
hashes_next m h j k lt = let e : k - j ≡ suc (k - (j + 1)) = omega arith in rw (e, add-one)

pub hashes_end : (m h j k : ℕ) → k ≤ j → hashes m h j k ≡ []
hashes_end m h j k le = let e : k - j ≡ 0 = omega arith in rw e

-- ---- one number more
pub any_next : (a : Bool) (p : ℕ → Bool) (x : ℕ) (l : List ℕ) → (a || any p (x ∷ l)) ≡ ((a || p x) || any p l)
any_next a p x l = sym (or_assoc a (p x) (any p l))

pub least_next : (t x : ℕ) (l : List ℕ) → least t (x ∷ l) ≡ least (min x t) l
least_next t x [] = refl
least_next t x (y ∷ ys) = let e = least_next t x ys in omega (arith, e)

-- ---- repeats alter nothing
has_any : (p : ℕ → Bool) (x : ℕ) (l : List ℕ) → has x l ≡ true → p x ≡ true → any p l ≡ true
has_any p x [] h e = absurd (true≢false (sym h))
has_any p x (y ∷ ys) h e =
    by_test (eqb x y) (λ q. rw (← eqb-true x y q, e)) (λ q. by_test (p y) (λ z. rw z) (λ z. rw z (has_any p x ys (rw q at h) e)))

any_fresh : (p : ℕ → Bool) (seen l : List ℕ) → (any p seen || any p (fresh seen l)) ≡ (any p seen || any p l)
any_fresh p seen [] = refl
any_fresh p seen (x ∷ xs) =
    by_test (has x seen)
    (λ e. rw e (by_test (p x) (λ q. rw (has_any p x seen e q)) (λ q. rw q (any_fresh p seen xs))))
    (λ e. rw e (by_test (p x) (λ q. rw q) (λ q. rw q (rw q at (any_fresh p (x ∷ seen) xs)))))

has_least : (f : ℕ → ℕ) (t x : ℕ) (l : List ℕ) → has x l ≡ true → least t (map f l) ≤ f x
has_least f t x [] h = absurd (true≢false (sym h))
has_least f t x (y ∷ ys) h = by_test (eqb x y) (λ q. rw (eqb-true x y q) (omega arith)) (λ q. omega (arith, has_least f t x ys (rw q at h)))

min_swap : (a x b : ℕ) → min a (min x b) ≡ min (min x a) b
min_swap a x b = omega arith

least_fresh : (f : ℕ → ℕ) (t : ℕ) (seen l : List ℕ)
    → min (least t (map f seen)) (least t (map f (fresh seen l))) ≡ min (least t (map f seen)) (least t (map f l))
least_fresh f t seen [] = refl
least_fresh f t seen (x ∷ xs) =
    let a = least t (map f seen) in
    by_test (has x seen) (λ e. rw e (least_fresh f t seen xs ∙ absorbed a (f x) (least t (map f xs)) (has_least f t x seen e)))
    (λ e. rw e (min_swap a (f x) (least t (map f (fresh (x ∷ seen) xs))) ∙ least_fresh f t (x ∷ seen) xs ∙ sym (min_swap a (f x) (least t (map f xs)))))
  where
    absorbed : (a x b : ℕ) → a ≤ x → min a b ≡ min a (min x b)
    absorbed a x b h = omega arith

pub any_numbers : (p : ℕ → Bool) (m k h : ℕ) → any p (numbers_of m k h) ≡ any p (hashes m h 0 k)
unfolding numbers_of
any_numbers p m k h = let e : k - 0 ≡ k = omega arith in rw e (any_fresh p [] (map (λ i. hash m h i) (upto 0 k)))

pub least_numbers : (f : ℕ → ℕ) (t m k h : ℕ) → least t (map f (numbers_of m k h)) ≡ least t (map f (hashes m h 0 k))
unfolding numbers_of
least_numbers f t m k h =
    let e : k - 0 ≡ k = omega arith in
    let l = map (λ i. hash m h i) (upto 0 k) in
    rw e (bounded t (least t (map f (fresh [] l))) (least t (map f l)) (least_le t (map f (fresh [] l))) (least_le t (map f l)) (least_fresh f t [] l))
  where
    bounded : (t a b : ℕ) → a ≤ t → b ≤ t → min t a ≡ min t b → a ≡ b
    bounded t a b ha hb q = omega arith

-- ---- rank: a bucket's counter and its number as one number
abbrev pub rank : (ℕ → ℕ) → ℕ → ℕ
rank c b = c b * 65536 + b

none_least : (c : ℕ → ℕ) (t v : ℕ) (l : List ℕ) → v < least t (map c l) → filter (λ b. eqb (c b) v) l ≡ []
none_least c t v [] h = refl
none_least c t v (x ∷ xs) h = let n : c x ≡ v → ⊥ = omega arith in rw (ne_eqb (c x) v n) (none_least c t v xs (omega arith))

pub least_rank : (c : ℕ → ℕ) (t m : ℕ) (l : List ℕ) → m < 65536 → All (λ b. b < m) l
    → least (t * 65536 + m) (map (rank c) l) ≡ least t (map c l) * 65536 + least m (filter (λ b. eqb (c b) (least t (map c l))) l)
least_rank c t m [] h a = refl
least_rank c t m (x ∷ xs) h a = go (ltb (c x) (least t (map c xs))) refl (eqb (c x) (least t (map c xs))) refl (least_rank c t m xs h a.1)
  where
    below : (b x low f : ℕ) → b < low → x < m → min (b * 65536 + x) (low * 65536 + f) ≡ b * 65536 + min x m
    below b x low f p q = omega arith

    equal : (low x f : ℕ) → min (low * 65536 + x) (low * 65536 + f) ≡ low * 65536 + min x f
    equal low x f = omega arith

    above : (b x low f : ℕ) → low < b → f ≤ m → min (b * 65536 + x) (low * 65536 + f) ≡ low * 65536 + f
    above b x low f p q = omega arith

    -- the least with x in it, where it is w
    by_low : {w : ℕ} → min (c x) (least t (map c xs)) ≡ w
        → min (rank c x) (least (t * 65536 + m) (map (rank c) xs)) ≡ w * 65536 + least m (filter (λ b. eqb (c b) w) (x ∷ xs))
        → min (rank c x) (least (t * 65536 + m) (map (rank c) xs))
        ≡ min (c x) (least t (map c xs)) * 65536 + least m (filter (λ b. eqb (c b) (min (c x) (least t (map c xs)))) (x ∷ xs))
    by_low q e = subst (λ (w : ℕ). min (rank c x) (least (t * 65536 + m) (map (rank c) xs)) ≡ w * 65536 + least m (filter (λ b. eqb (c b) w) (x ∷ xs))) (sym q) e

    go : (u : Bool) → ltb (c x) (least t (map c xs)) ≡ u → (v : Bool) → eqb (c x) (least t (map c xs)) ≡ v
        → least (t * 65536 + m) (map (rank c) xs) ≡ least t (map c xs) * 65536 + least m (filter (λ b. eqb (c b) (least t (map c xs))) xs)
        → min (rank c x) (least (t * 65536 + m) (map (rank c) xs))
        ≡ min (c x) (least t (map c xs)) * 65536 + least m (filter (λ b. eqb (c b) (min (c x) (least t (map c xs)))) (x ∷ xs))
    go true e v f rest =
        let lt : c x < least t (map c xs) = ltb-true (c x) (least t (map c xs)) e in
        let q : min (c x) (least t (map c xs)) ≡ c x = omega arith in
        by_low q (rw (eq-eqb (c x) (c x) refl, none_least c t (c x) xs lt, rest) (below (c x) x (least t (map c xs)) _ lt a.0))
    go false e true f rest =
        let same : c x ≡ least t (map c xs) = eqb-true (c x) (least t (map c xs)) f in
        let q : min (c x) (least t (map c xs)) ≡ least t (map c xs) = omega arith in
        by_low q (rw (f, rest, same) (equal (least t (map c xs)) x _))
    go false e false f rest =
        let le : least t (map c xs) ≤ c x = ltb-false (c x) (least t (map c xs)) e in
        let ne : c x ≡ least t (map c xs) → ⊥ = eqb-false (c x) (least t (map c xs)) f in
        let q : min (c x) (least t (map c xs)) ≡ least t (map c xs) = omega arith in
        by_low q
        (rw (f, rest) (above (c x) x (least t (map c xs)) _ (omega arith) (least_le m (filter (λ b. eqb (c b) (least t (map c xs))) xs))))

-- ---- H from hash j on
pub rest_start : (h : ℕ) → h ≡ h / 2 ^ (16 * 0)
rest_start h = sym (div-one h)

pub rest_next : (h j rest : ℕ) → rest ≡ h / 2 ^ (16 * j) → rest / 65536 ≡ h / 2 ^ (16 * (j + 1))
rest_next h j rest e =
    let f : 16 * (j + 1) ≡ 16 * j + 16 = omega arith in
    rw (e, f, pow-add 2 (16 * j) 16) (div-div-eq-div-mul h (2 ^ (16 * j)) 65536)

pub rest_hash : (m h j rest : ℕ) → rest ≡ h / 2 ^ (16 * j) → rest % m ≡ hash m h j
unfolding hash
rest_hash m h j rest e = rw e

-- ---- one hash more, whose bucket is b, and the end of the loop
module _ (m h j k : ℕ) where
  module _ (p : ℕ → Bool) (seen : Bool) {all : Bool} (so_far : (seen || any p (hashes m h j k)) ≡ all) where
    pub any_again : (b : ℕ) → b ≡ hash m h j → j < k → ((seen || p b) || any p (hashes m h (j + 1) k)) ≡ all
    any_again b is_hash lt = let q = rw (hashes_next m h j k lt, ← is_hash) at so_far in sym (any_next seen p b (hashes m h (j + 1) k)) ∙ q

    pub any_end : k ≤ j → seen ≡ all
    any_end le = sym (or-false seen) ∙ rw (hashes_end m h j k le) at so_far

  module _ (c : ℕ → ℕ) (best : ℕ) {all : ℕ} (so_far : least best (map (rank c) (hashes m h j k)) ≡ all) where
    pub best_again : (b : ℕ) → b ≡ hash m h j → j < k → least (min (rank c b) best) (map (rank c) (hashes m h (j + 1) k)) ≡ all
    best_again b is_hash lt =
        let q = rw (hashes_next m h j k lt, ← is_hash) at so_far in sym (least_next best (rank c b) (map (rank c) (hashes m h (j + 1) k))) ∙ q

    pub best_end : k ≤ j → best ≡ all
    best_end le = rw (hashes_end m h j k le) at so_far

-- ---- the least rank of a key's hashes: its least count, and the bucket that it chooses
module _ (s : Card) (c : ℕ → ℕ) (k h best : ℕ) (some_bucket : 0 < s.buckets) (few : s.buckets < 65536)
    (is_least : best ≡ least (s.top * 65536 + s.buckets) (map (rank c) (hashes s.buckets h 0 k))) where
  module _ (key : List ℕ) (by_hash : s.numbers key ≡ numbers_of s.buckets k h) where
    abbrev low : ℕ
    low = least s.buckets (filter (λ b. eqb (c b) (least s.top (map c (numbers_of s.buckets k h)))) (numbers_of s.buckets k h))

    pair : best ≡ least s.top (map c (numbers_of s.buckets k h)) * 65536 + low
    pair =
        is_least ∙ sym (least_numbers (rank c) (s.top * 65536 + s.buckets) s.buckets k h)
        ∙ least_rank c s.top s.buckets (numbers_of s.buckets k h) few (numbers_of_below s.buckets k h some_bucket)

    small : low < 65536
    small =
        let le = least_le s.buckets (filter (λ b. eqb (c b) (least s.top (map c (numbers_of s.buckets k h)))) (numbers_of s.buckets k h)) in
        omega (arith, le)

    pub rank_least : best / 65536 ≡ least_count s c key
    unfolding least_count
    rank_least = rw (by_hash, pair) (high (least s.top (map c (numbers_of s.buckets k h))) low small)
      where
        high : (a b : ℕ) → b < 65536 → (a * 65536 + b) / 65536 ≡ a
        high a b q = omega arith

    pub rank_chosen : best % 65536 ≡ chosen s c key
    unfolding chosen least_count
    rank_chosen = rw (by_hash, pair) (rest (least s.top (map c (numbers_of s.buckets k h))) low small)
      where
        rest : (a b : ℕ) → b < 65536 → (a * 65536 + b) % 65536 ≡ b
        rest a b q = omega arith
