-- Lists that grow at their end, as a loop that goes up makes them: numbers, pieces, what passes a test, and the first records of an area.
use mathlib.Core.Path.{◌≡◌, refl, sym, ap, ◌∙◌}
use mathlib.Core.Bool.{Bool, cond, ◌||◌, or_assoc, or-false}
use mathlib.Core.List.{List, [], ◌∷◌, ◌++◌, append_assoc, append-nil}
use Prim.Native.Nat.{ℕ, zero, suc, ◌+◌, ◌-◌, ◌*◌, ◌≤◌, ◌<◌}
use native.Mathlib.Nat.{zero-mul, suc-mul, add_comm, add-zero, zero-add, add-suc, suc-add}
use native.Mathlib.Numerals.{add-one}
use native.Mathlib.Omega.{arith}
use lib.ListN.{length, take, drop, get_or, length-append}
use lib.Seq.{take-suc, drop-drop}
use Rattle.theory.specs.Lists.{filter, any, flat, upto}
use Rattle.theory.specs.Records.{Record, entries, record_at, records}
use Rattle.theory.proofs.ListLaws.{by_test, All}

-- ---- numbers
pub upto_end : (a n : ℕ) → upto a (suc n) ≡ upto a n ++ ((a + n) ∷ [])
upto_end a zero = rw add-zero
upto_end a (suc n) = rw (add-suc, ← suc-add) (ap (λ (r : List ℕ). a ∷ r) (upto_end (suc a) n))

pub upto_more : (j : ℕ) → upto 0 (j + 1) ≡ upto 0 j ++ (j ∷ [])
upto_more j = rw (add-one j) (upto_end 0 j ∙ rw (zero-add j))

pub upto_from : (P : ℕ → Type 0) (a n : ℕ) → ((x : ℕ) → a ≤ x → P x) → All P (upto a n)
upto_from P a zero f = tt
upto_from P a (suc n) f = (f a (omega arith), upto_from P (suc a) n (λ x h. f x (omega arith)))

-- ---- pieces
pub flat_append : {A : Type 0} (f : A → List ℕ) (l m : List A) → flat f (l ++ m) ≡ flat f l ++ flat f m
flat_append f [] m = refl
flat_append f (x ∷ xs) m = rw (flat_append f xs m, ← append_assoc)

pub flat_more : (f : ℕ → List ℕ) (b : ℕ) → flat f (upto 0 (b + 1)) ≡ flat f (upto 0 b) ++ f b
flat_more f b = rw (upto_more b, flat_append, append-nil)

pub flat_cong : (f g : ℕ → List ℕ) (l : List ℕ) → All (λ x. f x ≡ g x) l → flat f l ≡ flat g l
flat_cong f g [] a = refl
flat_cong f g (x ∷ xs) a = rw (a.0, flat_cong f g xs a.1)

-- ---- what passes a test
pub any_last : (p : ℕ → Bool) (l : List ℕ) (x : ℕ) → any p (l ++ (x ∷ [])) ≡ (any p l || p x)
any_last p [] x = or-false (p x)
any_last p (y ∷ ys) x = rw (any_last p ys x) (sym (or_assoc (p y) (any p ys) (p x)))

module _ {A : Type 0} (p : A → Bool) where
  pub filter_append : (l m : List A) → filter p (l ++ m) ≡ filter p l ++ filter p m
  filter_append [] m = refl
  filter_append (x ∷ xs) m = by_test (p x) (λ e. rw (e, filter_append xs m)) (λ e. rw (e, filter_append xs m))

  pub count_append : (l m : List A) → length (filter p (l ++ m)) ≡ length (filter p l) + length (filter p m)
  count_append l m = rw (filter_append l m, length-append)

  pub count_end : (l : List A) (x : A) → length (filter p (l ++ (x ∷ []))) ≡ length (filter p l) + cond (p x) 1 0
  count_end l x = rw (count_append l (x ∷ [])) (by_test (p x) (λ e. rw e) (λ e. rw e))

pub count_take : (p : ℕ → Bool) (l : List ℕ) (i : ℕ) → i < length l
    → length (filter p (take (i + 1) l)) ≡ length (filter p (take i l)) + cond (p (get_or l i 0)) 1 0
count_take p l i h = rw (add-one i, take-suc l i 0 h) (count_end p (take i l) (get_or l i 0))

-- ---- the first records of an area, of keys of w bytes
module _ (w : ℕ) where
  records_split : (i j : ℕ) (a : List ℕ) → records w (i + j) a ≡ records w i a ++ records w j (drop (i * (w + 4)) a)
  unfolding records entries
  records_split zero j a = rw (zero-add, zero-mul)
  records_split (suc i) j a =
      let e : suc i * (w + 4) ≡ (w + 4) + i * (w + 4) = suc-mul i (w + 4) ∙ add_comm (i * (w + 4)) (w + 4) in
      rw (suc-add, e, ← drop-drop (i * (w + 4)) (w + 4) a) (ap (λ (r : List Record). record_at w a ∷ r) (records_split i j (drop (w + 4) a)))

  records_one : (a : List ℕ) → records w 1 a ≡ record_at w a ∷ []
  unfolding records entries
  records_one a = refl

  pub records_more : (i : ℕ) (a : List ℕ) → records w (i + 1) a ≡ records w i a ++ (record_at w (drop (i * (w + 4)) a) ∷ [])
  records_more i a = records_split i 1 a ∙ rw records_one

  -- of the first records no more pass than of more
  pub filter_mono : (p : Record → Bool) (i n : ℕ) (a : List ℕ) → i ≤ n → length (filter p (records w i a)) ≤ length (filter p (records w n a))
  filter_mono p i n a h =
      let e : i + (n - i) ≡ n = omega arith in
      let q : records w n a ≡ records w i a ++ records w (n - i) (drop (i * (w + 4)) a) = ap (λ (k : ℕ). records w k a) (sym e) ∙ records_split i (n - i) a in
      rw (q, count_append p (records w i a) (records w (n - i) (drop (i * (w + 4)) a))) (omega arith)
