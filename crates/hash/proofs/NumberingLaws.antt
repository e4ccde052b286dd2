-- What the loops that look for a number and gather bucket numbers ask: repeats dropped with one number more, and zeros after the numbers.
use mathlib.Core.Path.{◌≡◌, refl, sym}
use mathlib.Core.Bool.{Bool, true, false, cond, ◌||◌, or-false}
use mathlib.Core.List.{List, [], ◌∷◌, ◌++◌, map, map-append, append-nil}
use Prim.Native.Nat.{ℕ, zero, suc, ◌+◌, ◌-◌, ◌<◌}
use native.Mathlib.Numerals.{add-one}
use native.Mathlib.Omega.{arith}
use lib.Dec.{eqb}
use borrow.Author.Tests.{eqb-true, eqb-false, eq-eqb, ne_eqb}
use lib.ListN.{length, take, drop, set, replicate}
use lib.Seq.{take-suc-set}
use Rattle.std.specs.List.{list_any}
use Rattle.theory.specs.Lists.{upto, has, fresh}
use Rattle.theory.proofs.ListLaws.{by_test}
use Rattle.theory.proofs.GrowingLaws.{upto_more}

-- ---- std's test whether a list holds a number
eqb_swap : (x y : ℕ) → eqb y x ≡ eqb x y
eqb_swap x y = by_test (eqb x y) (λ e. rw (e, eq-eqb y x (sym (eqb-true x y e)))) (λ e. rw (e, ne_eqb y x (λ q. eqb-false x y e (sym q))))

pub has_by_any : (x : ℕ) (l : List ℕ) → list_any (λ y. eqb y x) l ≡ has x l
has_by_any x [] = refl
has_by_any x (y ∷ ys) = rw (eqb_swap x y, has_by_any x ys)

-- ---- repeats dropped, with one number more
or_swap : (a b c : Bool) → ((a || b) || c) ≡ (b || (a || c))
or_swap true true c = refl
or_swap true false c = refl
or_swap false b c = refl

pub fresh_end : (seen l : List ℕ) (x : ℕ) → fresh seen (l ++ (x ∷ [])) ≡ fresh seen l ++ cond (has x seen || has x (fresh seen l)) [] (x ∷ [])
fresh_end seen [] x = rw or-false (by_test (has x seen) (λ e. rw e) (λ e. rw e))
fresh_end seen (y ∷ ys) x =
    by_test (has y seen) (λ e. rw e (fresh_end seen ys x))
    (λ e. rw (e, fresh_end (y ∷ seen) ys x, or_swap (eqb x y) (has x seen) (has x (fresh (y ∷ seen) ys))))

module _ (f : ℕ → ℕ) (at : List ℕ) (n j x : ℕ) (e : take n at ≡ fresh [] (map f (upto 0 j))) (q : x ≡ f j) where
  more : fresh [] (map f (upto 0 (j + 1))) ≡ take n at ++ cond (has x (take n at)) [] (x ∷ [])
  more = rw (upto_more j, map-append, fresh_end, ← e, ← q)

  pub numbers_same : has x (take n at) ≡ true → take n at ≡ fresh [] (map f (upto 0 (j + 1)))
  numbers_same h = rw (more, h, append-nil)

  pub numbers_more : has x (take n at) ≡ false → n < length at → take (n + 1) (set at n x) ≡ fresh [] (map f (upto 0 (j + 1)))
  numbers_more h l = rw (more, h, add-one) (take-suc-set at n x l)

-- ---- zeros after the numbers
drop_past : (l : List ℕ) (n x : ℕ) → drop (suc n) (set l n x) ≡ drop 1 (drop n l)
drop_past [] zero x = refl
drop_past [] (suc n) x = refl
drop_past (y ∷ ys) zero x = refl
drop_past (y ∷ ys) (suc n) x = drop_past ys n x

pub rest_more : (z n x : ℕ) (at : List ℕ) → n < z → drop n at ≡ replicate (z - n) 0 → drop (n + 1) (set at n x) ≡ replicate (z - (n + 1)) 0
rest_more z n x at h e =
    let one : z - n ≡ suc (z - suc n) = omega arith in rw (add-one n, drop_past at n x, e, one)
