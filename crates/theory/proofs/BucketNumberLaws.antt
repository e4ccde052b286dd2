-- Laws of bucket numbers: repeats dropped, none lost.
use mathlib.Core.Path.{◌≡◌, refl, sym, ap, ◌∙◌}
use mathlib.Core.Bool.{Bool, true, false, not, ◌&&◌, true≢false}
use mathlib.Core.List.{List, [], ◌∷◌}
use Prim.Native.Nat.{ℕ}
use lib.Dec.{eqb}
use borrow.Author.Tests.{eqb-true, eq-eqb}
use Rattle.theory.specs.Lists.{has, fresh}
use Rattle.theory.proofs.ListLaws.{by_test, All}

-- no number twice
abbrev pub distinct : List ℕ → Bool
distinct [] = true
distinct (x ∷ xs) = not (has x xs) && distinct xs

-- nothing of seen is kept
fresh_new : (b : ℕ) (seen l : List ℕ) → has b seen ≡ true → has b (fresh seen l) ≡ false
fresh_new b seen [] h = refl
fresh_new b seen (x ∷ xs) h =
    by_test (has x seen) (λ e. rw e (fresh_new b seen xs h))
    (λ e. rw e (by_test (eqb b x) (λ q. absurd (true≢false (sym h ∙ ap (λ (y : ℕ). has y seen) (eqb-true b x q) ∙ e)))
    (λ q. rw q (fresh_new b (x ∷ seen) xs (rw (q) h)))))

pub fresh_distinct : (seen l : List ℕ) → distinct (fresh seen l) ≡ true
fresh_distinct seen [] = refl
fresh_distinct seen (x ∷ xs) =
    by_test (has x seen) (λ e. rw e (fresh_distinct seen xs))
    (λ e. rw (e, fresh_new x (x ∷ seen) xs (rw (eq-eqb x x refl))) (fresh_distinct (x ∷ seen) xs))

-- what holds of each number holds of each that is kept
pub fresh_all : (P : ℕ → Type 0) (seen l : List ℕ) → All P l → All P (fresh seen l)
fresh_all P seen [] h = tt
fresh_all P seen (x ∷ xs) h = by_test (has x seen) (λ e. rw e (fresh_all P seen xs h.1)) (λ e. rw e (h.0, fresh_all P (x ∷ seen) xs h.1))
