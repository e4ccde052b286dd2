-- Laws of lists by Boolean tests.
use mathlib.Core.Path.{◌≡◌, refl, sym, ap, ◌∙◌, subst}
use mathlib.Core.Logic.{◌≢◌}
use mathlib.Core.Bool.{Bool, true, false, cond, not, ◌&&◌, ◌||◌, true≢false, false≢true}
use mathlib.Core.List.{List, [], ◌∷◌, ◌++◌, map, append-nil}
use Prim.Native.Nat.{ℕ, zero, suc, ◌+◌, ◌*◌, ◌≤◌, ◌<◌, min, zero-le}
use native.Mathlib.Nat.{le_of_suc-le-suc, not-suc-le-zero, add-zero, suc-add, add-suc, suc-mul, zero-mul, add_comm, le_refl}
use native.Mathlib.Omega.{arith}
use lib.Dec.{leb, eqb}
use borrow.Author.Tests.{eqb-true, eqb-false, eq-eqb, ne_eqb, leb-true, leb-false}
use lib.ListN.{length, take, drop, get_or, replicate, length-append, drop_of_length-le}
use lib.Seq.{sets, sets-eq, take_at, drop-append-add}
use Rattle.theory.specs.Lists.{filter, any, all, flat, upto, has, least}
pub use Rattle.theory.specs.Lists.{All}

-- ---- tests
pub and_left : (a b : Bool) → (a && b) ≡ true → a ≡ true
and_left true b e = refl
and_left false b e = e

pub and_right : (a b : Bool) → (a && b) ≡ true → b ≡ true
and_right true b e = e
and_right false b e = absurd (false≢true e)

pub and_both : (a b : Bool) → a ≡ true → b ≡ true → (a && b) ≡ true
and_both a b p q = rw (p, q)

pub or_left : (a b : Bool) → (a || b) ≡ false → a ≡ false
or_left true b e = e
or_left false b e = refl

pub or_right : (a b : Bool) → (a || b) ≡ false → b ≡ false
or_right true b e = absurd (true≢false e)
or_right false b e = e

-- a test by its opposite
pub negated_false : (r t : Bool) → r ≡ not t → r ≡ false → t ≡ true
negated_false r true e f = refl
negated_false r false e f = absurd (true≢false (sym e ∙ f))

pub negated_true : (r t : Bool) → r ≡ not t → r ≡ true → t ≡ false
negated_true r true e f = absurd (true≢false (sym f ∙ e))
negated_true r false e f = refl

-- two choices by one test, each under a function; and a fact by a test's two values
pub either : {A B X : Type 0} (F : A → X) (H : B → X) (t : Bool) {a b : A} {a' b' : B} → (t ≡ true → F a ≡ H a') → (t ≡ false → F b ≡ H b')
    → F (cond t a b) ≡ H (cond t a' b')
either F H true f g = f refl
either F H false f g = g refl

pub by_test : {P : Type 0} (t : Bool) → (t ≡ true → P) → (t ≡ false → P) → P
by_test true f g = f refl
by_test false f g = g refl

-- two tests of equal numbers that stand and fall together
pub eqb_same : (a b c d : ℕ) → (a ≡ b → c ≡ d) → (c ≡ d → a ≡ b) → eqb a b ≡ eqb c d
eqb_same a b c d f g = by_test (eqb a b) (λ e. rw e (sym (eq-eqb c d (f (eqb-true a b e))))) (λ e. rw e (sym (ne_eqb c d (λ q. eqb-false a b e (g q)))))

module _ {A : Type 0} where
  pub all_every : {P : A → Type 0} → ((x : A) → P x) → (l : List A) → All P l
  all_every f [] = tt
  all_every f (x ∷ xs) = (f x, all_every f xs)

  pub all_map : {P Q : A → Type 0} → ((x : A) → P x → Q x) → (l : List A) → All P l → All Q l
  all_map f [] h = tt
  all_map f (x ∷ xs) h = (f x h.0, all_map f xs h.1)

  pub map_all : (P : A → Type 0) (f : A → A) → ((x : A) → P x → P (f x)) → (l : List A) → All P l → All P (map f l)
  map_all P f h [] a = tt
  map_all P f h (x ∷ xs) a = (h x a.0, map_all P f h xs a.1)

  pub all_of_map : {B : Type 0} (P : B → Type 0) (f : A → B) (l : List A) → All (λ x. P (f x)) l → All P (map f l)
  all_of_map P f [] a = tt
  all_of_map P f (x ∷ xs) a = (a.0, all_of_map P f xs a.1)

  -- an element, what is left after some, and the first ones, of a list each element of which has P
  pub all_at : (P : A → Type 0) (l : List A) (i : ℕ) (d : A) → i < length l → All P l → P (get_or l i d)
  all_at P [] i d h a = absurd (not-suc-le-zero h)
  all_at P (x ∷ xs) zero d h a = a.0
  all_at P (x ∷ xs) (suc i) d h a = all_at P xs i d (le_of_suc-le-suc h) a.1

  pub all_drop : (P : A → Type 0) (n : ℕ) (l : List A) → All P l → All P (drop n l)
  all_drop P zero l a = a
  all_drop P (suc n) [] a = tt
  all_drop P (suc n) (x ∷ xs) a = all_drop P n xs a.1

  pub all_take : (P : A → Type 0) (n : ℕ) (l : List A) → All P l → All P (take n l)
  all_take P zero l a = tt
  all_take P (suc n) [] a = tt
  all_take P (suc n) (x ∷ xs) a = (a.0, all_take P n xs a.1)

  pub all_append : (P : A → Type 0) (l m : List A) → All P l → All P m → All P (l ++ m)
  all_append P [] m a b = b
  all_append P (x ∷ xs) m a b = (a.0, all_append P xs m a.1 b)

  pub all_replicate : (P : A → Type 0) (n : ℕ) (x : A) → P x → All P (replicate n x)
  all_replicate P zero x p = tt
  all_replicate P (suc n) x p = (p, all_replicate P n x p)

  pub any_cong : (p q : A → Bool) (l : List A) → All (λ x. p x ≡ q x) l → any p l ≡ any q l
  any_cong p q [] h = refl
  any_cong p q (x ∷ xs) h = rw (h.0, any_cong p q xs h.1)

  pub all_cong : (p q : A → Bool) (l : List A) → All (λ x. p x ≡ q x) l → all p l ≡ all q l
  all_cong p q [] h = refl
  all_cong p q (x ∷ xs) h = rw (h.0, all_cong p q xs h.1)

  pub filter_cong : (p q : A → Bool) (l : List A) → All (λ x. p x ≡ q x) l → filter p l ≡ filter q l
  filter_cong p q [] h = refl
  filter_cong p q (x ∷ xs) h = rw (h.0, filter_cong p q xs h.1)

  pub map_cong : {B : Type 0} (f g : A → B) (l : List A) → All (λ x. f x ≡ g x) l → map f l ≡ map g l
  map_cong f g [] h = refl
  map_cong f g (x ∷ xs) h = rw (h.0, map_cong f g xs h.1)

  -- what is kept passes, and keeps what held of each
  pub filter_all : (P : A → Type 0) (p : A → Bool) (l : List A) → All P l → All P (filter p l)
  filter_all P p [] h = tt
  filter_all P p (x ∷ xs) h = go (p x) (filter_all P p xs h.1)
    where
      go : (b : Bool) → All P (filter p xs) → All P (cond b (x ∷ filter p xs) (filter p xs))
      go true r = (h.0, r)
      go false r = r

  pub filter_len : (p : A → Bool) (l : List A) → length (filter p l) ≤ length l
  filter_len p [] = zero-le
  filter_len p (x ∷ xs) = go (p x) (filter_len p xs)
    where
      go : (b : Bool) → length (filter p xs) ≤ length xs → length (cond b (x ∷ filter p xs) (filter p xs)) ≤ suc (length xs)
      go true r = omega arith
      go false r = omega arith

  pub filter_grows : (p : A → Bool) (x : A) (xs : List A) → length (filter p xs) ≤ length (filter p (x ∷ xs))
  filter_grows p x xs = go (p x)
    where
      go : (b : Bool) → length (filter p xs) ≤ length (cond b (x ∷ filter p xs) (filter p xs))
      go true = omega arith
      go false = omega arith

  pub filter_first : (p : A → Bool) (x : A) (xs : List A) → p x ≡ true → 0 < length (filter p (x ∷ xs))
  filter_first p x xs e = rw e (omega arith)

  pub any_false : (p : A → Bool) (l : List A) → All (λ x. p x ≡ false) l → any p l ≡ false
  any_false p [] h = refl
  any_false p (x ∷ xs) h = rw h.0 (any_false p xs h.1)

  pub any_none : (p : A → Bool) (l : List A) → any p l ≡ false → All (λ x. p x ≡ false) l
  any_none p [] e = tt
  any_none p (x ∷ xs) e = by_test (p x) (λ q. absurd (true≢false (rw q at e))) (λ q. (q, any_none p xs (rw q at e)))

  pub all_each : (p : A → Bool) (l : List A) → all p l ≡ true → All (λ x. p x ≡ true) l
  all_each p [] e = tt
  all_each p (x ∷ xs) e = (and_left (p x) (all p xs) e, all_each p xs (and_right (p x) (all p xs) e))

  pub length_drop_past : (p q : List A) (n k : ℕ) → length p ≡ n → drop (n + k) (p ++ q) ≡ drop k q
  length_drop_past p q n k e = subst (λ (m : ℕ). drop (m + k) (p ++ q) ≡ drop k q) e (drop-append-add p q k)

  -- an area whose every number was stored is the list of what was stored
  pub all_stored : (vs l : List A) → length l ≡ length vs → sets l 0 vs ≡ vs
  all_stored vs l e =
      sets-eq vs l 0 (omega arith) ∙ ap (λ (r : List A). vs ++ r) (drop_of_length-le l {i = 0 + length vs} (omega arith)) ∙ append-nil vs

-- numbers from a up
pub length_upto : (a n : ℕ) → length (upto a n) ≡ n
length_upto a zero = refl
length_upto a (suc n) = ap suc (length_upto (suc a) n)

pub getD_map_upto : (f : ℕ → ℕ) (a n i d : ℕ) → i < n → get_or (map f (upto a n)) i d ≡ f (a + i)
getD_map_upto f a zero i d h = absurd (not-suc-le-zero h)
getD_map_upto f a (suc n) zero d h = rw add-zero
getD_map_upto f a (suc n) (suc i) d h = getD_map_upto f (suc a) n i d (le_of_suc-le-suc h) ∙ rw (suc-add, add-suc)

pub all_upto : {P : ℕ → Type 0} (a n : ℕ) → ((i : ℕ) → i < a + n → P i) → All P (upto a n)
all_upto a zero f = tt
all_upto a (suc n) f = (f a (omega arith), all_upto (suc a) n (λ i h. f i (omega arith)))

-- pieces of one size: their length, and one of them
pub length_flat : {A : Type 0} (f : A → List ℕ) (z : ℕ) (l : List A) → All (λ x. length (f x) ≡ z) l → length (flat f l) ≡ z * length l
length_flat f z [] h = omega arith
length_flat f z (x ∷ xs) h = omega (arith, length-append (f x) (flat f xs), h.0, length_flat f z xs h.1)

pub piece : (f : ℕ → List ℕ) (z : ℕ) → ((b : ℕ) → length (f b) ≡ z) → (a n i : ℕ) → i < n → take z (drop (i * z) (flat f (upto a n))) ≡ f (a + i)
piece f z e a zero i h = absurd (not-suc-le-zero h)
piece f z e a (suc n) zero h = rw (zero-mul, add-zero) (take_at (f a) (flat f (upto (suc a) n)) z (e a))
piece f z e a (suc n) (suc i) h =
    rw (suc-mul, add_comm (i * z) z, length_drop_past (f a) (flat f (upto (suc a) n)) z (i * z) (e a), add-suc, ← suc-add)
    (piece f z e (suc a) n i (le_of_suc-le-suc h))

-- a member is found
pub has_grown : (b y : ℕ) (l : List ℕ) → has b l ≡ true → has b (y ∷ l) ≡ true
has_grown b y l e = go (eqb b y)
  where
    go : (t : Bool) → (t || has b l) ≡ true
    go true = refl
    go false = e

pub all_has : (l : List ℕ) → All (λ b. has b l ≡ true) l
all_has [] = tt
all_has (x ∷ xs) = (rw (eq-eqb x x refl), all_map (λ b e. has_grown b x xs e) xs (all_has xs))

-- the least of t and a list
pub least_le : (t : ℕ) (l : List ℕ) → least t l ≤ t
least_le t [] = le_refl t
least_le t (x ∷ xs) = omega (arith, least_le t xs)

pub least_clip : (c : ℕ → ℕ) (t : ℕ) (l : List ℕ) → least t (map (λ b. min (c b) t) l) ≡ least t (map c l)
least_clip c t [] = refl
least_clip c t (x ∷ xs) = rw (least_clip c t xs) (omega (arith, least_le t (map c xs)))

-- not all at least t: the least is below t
pub least_lt : (c : ℕ → ℕ) (t : ℕ) (l : List ℕ) → all (λ b. leb t (c b)) l ≡ false → least t (map c l) < t
least_lt c t [] e = absurd (true≢false e)
least_lt c t (x ∷ xs) e = go (leb t (c x)) refl e (λ f. least_lt c t xs f)
  where
    go : (b : Bool) → leb t (c x) ≡ b → (b && all (λ b. leb t (c b)) xs) ≡ false → (all (λ b. leb t (c b)) xs ≡ false → least t (map c xs) < t)
        → min (c x) (least t (map c xs)) < t
    go true q f r = omega (arith, r f)
    go false q f r = omega (arith, leb-false t (c x) q)

-- the least is some element's, where it is below t
pub attained : (c : ℕ → ℕ) (t v : ℕ) (l : List ℕ) → least t (map c l) ≡ v → v < t → any (λ b. eqb (c b) v) l ≡ true
attained c t v [] e h = absurd (omega arith)
attained c t v (x ∷ xs) e h = go (eqb (c x) v) refl (λ q. attained c t v xs q h)
  where
    go : (b : Bool) → eqb (c x) v ≡ b → (least t (map c xs) ≡ v → any (λ b. eqb (c b) v) xs ≡ true) → (b || any (λ b. eqb (c b) v) xs) ≡ true
    go true q r = refl
    go false q r = let n : c x ≢ v = eqb-false (c x) v q in r (omega arith)

pub least_filter : (m : ℕ) (p : ℕ → Bool) (l : List ℕ) → any p l ≡ true → All (λ b. b < m) l → least m (filter p l) < m
least_filter m p [] e h = absurd (false≢true e)
least_filter m p (x ∷ xs) e h = go (p x) e (λ f. least_filter m p xs f h.1)
  where
    go : (t : Bool) → (t || any p xs) ≡ true → (any p xs ≡ true → least m (filter p xs) < m) → least m (cond t (x ∷ filter p xs) (filter p xs)) < m
    go true f r = omega (arith, h.0)
    go false f r = r f

-- the least tells whether a number is zero, and whether all are t
pub least_zero : (c : ℕ → ℕ) (t : ℕ) (l : List ℕ) → 0 < t → any (λ b. eqb (c b) 0) l ≡ eqb (least t (map c l)) 0
least_zero c t [] h = sym (ne_eqb t 0 (omega arith))
least_zero c t (x ∷ xs) h =
    rw (least_zero c t xs h)
    (by_test (eqb (c x) 0) (λ e. rw e (sym (eq-eqb (min (c x) (least t (map c xs))) 0 (omega (arith, eqb-true (c x) 0 e)))))
    (λ e. let n : c x ≢ 0 = eqb-false (c x) 0 e in rw e (eqb_same (least t (map c xs)) 0 (min (c x) (least t (map c xs))) 0 (omega arith) (omega arith))))

pub least_top : (c : ℕ → ℕ) (t : ℕ) (l : List ℕ) → all (λ b. leb t (c b)) l ≡ eqb (least t (map c l)) t
least_top c t [] = sym (eq-eqb t t refl)
least_top c t (x ∷ xs) =
    rw (least_top c t xs)
    (by_test (leb t (c x)) (λ e. rw e
    (eqb_same (least t (map c xs)) t (min (c x) (least t (map c xs))) t (omega (arith, leb-true t (c x) e, least_le t (map c xs)))
    (omega (arith, leb-true t (c x) e, least_le t (map c xs)))))
    (λ e. rw e (sym (ne_eqb (min (c x) (least t (map c xs))) t (omega (arith, leb-false t (c x) e))))))
