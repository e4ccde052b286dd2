-- Functions on lists that the definitions of document 01 are made of: tests are Booleans, counts are lengths of what passes.
use Rattle.std.specs.Prelude.{Bool, true, false, cond, ◌&&◌, ◌||◌, List, [], ◌∷◌, ◌++◌, ℕ, zero, suc, ◌+◌, min, eqb}

module _ {A : Type 0} where
  -- the elements that pass, in their order
  abbrev pub filter : (A → Bool) → List A → List A
  filter p [] = []
  filter p (x ∷ xs) = cond (p x) (x ∷ filter p xs) (filter p xs)

  abbrev pub any : (A → Bool) → List A → Bool
  any p [] = false
  any p (x ∷ xs) = p x || any p xs

  abbrev pub all : (A → Bool) → List A → Bool
  all p [] = true
  all p (x ∷ xs) = p x && all p xs

  -- what f gives of each element, one after the other
  abbrev pub flat : (A → List ℕ) → List A → List ℕ
  flat f [] = []
  flat f (x ∷ xs) = f x ++ flat f xs

-- P holds of each element
abbrev pub All : {A : Type 0} → (A → Type 0) → List A → Type 0
All P [] = Unit {0}
All P (x ∷ xs) = P x × All P xs

-- n numbers from a up
abbrev pub upto : ℕ → ℕ → List ℕ
upto a zero = []
upto a (suc n) = a ∷ upto (suc a) n

-- b is one of the numbers
abbrev pub has : ℕ → List ℕ → Bool
has b l = any (λ x. eqb b x) l

-- the least of the numbers, or t where none is below t
abbrev pub least : ℕ → List ℕ → ℕ
least t [] = t
least t (x ∷ xs) = min x (least t xs)

-- the list with repeats dropped, and without the numbers in seen; the rest in its order
abbrev pub fresh : List ℕ → List ℕ → List ℕ
fresh seen [] = []
fresh seen (x ∷ xs) = cond (has x seen) (fresh seen xs) (x ∷ fresh (x ∷ seen) xs)

abbrev pub sum : List ℕ → ℕ
sum [] = 0
sum (x ∷ xs) = x + sum xs
