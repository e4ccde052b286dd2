-- Laws of the fill (document 02, U4): it is the nearest whole number, a half to the even neighbour; no other number is; and where document 01's was another.
use mathlib.Core.Path.{◌≡◌, ◌∙◌}
use mathlib.Core.Bool.{cond, ◌&&◌}
use Prim.Native.Nat.{ℕ, ◌+◌, ◌*◌, ◌/◌, ◌%◌, ◌≤◌, ◌<◌}
use native.Mathlib.Nat.{div-add-mod, mod-lt, mul-add, mul-le-mul_left, div-eq_of_lt-le}
use native.Mathlib.Omega.{arith}
use lib.Dec.{ltb, eqb}
use borrow.Author.Tests.{ltb-true, ltb-false, eqb-true, eqb-false, lt-ltb, le-ltb, eq-eqb, ne_eqb}
use Rattle.theory.specs.Ledger.{fill_of}
use Rattle.theory.specs.Fill.{Nearest, FillNearest, NearestIsFill, fill_half_up, FillBefore}
use Rattle.theory.proofs.ListLaws.{by_test}

-- ---- the three cases of the definition: below a half, above it, at it
module _ (n m : ℕ) where
  abbrev quotient : ℕ
  quotient = 100 * n / m

  abbrev remainder : ℕ
  remainder = 100 * n % m

  pub fill_below : 2 * remainder < m → fill_of n m ≡ quotient
  unfolding fill_of
  fill_below h = rw (lt-ltb (2 * remainder) m h)

  pub fill_above : m < 2 * remainder → fill_of n m ≡ quotient + 1
  unfolding fill_of
  fill_above h = rw (le-ltb (2 * remainder) m (omega arith), lt-ltb m (2 * remainder) h)

  pub fill_half : m ≤ 2 * remainder → 2 * remainder ≤ m → fill_of n m ≡ quotient + quotient % 2
  unfolding fill_of
  fill_half h k = rw (le-ltb (2 * remainder) m h, le-ltb m (2 * remainder) k)

-- ---- over some buckets: q the quotient, r the remainder
module _ (n m : ℕ) (some : 0 < m) where
  abbrev q : ℕ
  q = quotient n m

  abbrev r : ℕ
  r = remainder n m

  whole : m * q + r ≡ 100 * n
  whole = div-add-mod (100 * n) m

  less : r < m
  less = mod-lt (100 * n) some

  by_remainder : {P : Type 0} → (2 * r < m → P) → (m < 2 * r → P) → (2 * r ≡ m → P) → P
  by_remainder below above half =
      by_test (ltb (2 * r) m) (λ e. below (ltb-true (2 * r) m e))
      (λ e. by_test (ltb m (2 * r)) (λ f. above (ltb-true m (2 * r) f)) (λ f. half (omega (arith, ltb-false (2 * r) m e, ltb-false m (2 * r) f))))

  by_parity : {P : Type 0} → (q % 2 ≡ 0 → P) → (q % 2 ≡ 1 → P) → P
  by_parity even odd = by_test (eqb (q % 2) 0) (λ e. even (eqb-true (q % 2) 0 e)) (λ e. odd (omega (arith, eqb-false (q % 2) 0 e)))

  at_half : 2 * r ≡ m → fill_of n m ≡ q + q % 2
  at_half h = fill_half n m (omega arith) (omega arith)

  -- ---- nearest
  nearest : Nearest n m (fill_of n m)
  nearest =
      by_remainder
      (λ h. rw (fill_below n m h) (record { near = omega (arith, whole); half_even = omega (arith, whole) }))
      (λ h. rw (fill_above n m h) (record { near = omega (arith, whole, less); half_even = omega (arith, whole, less) }))
      (λ h. by_parity
      (λ even. rw (at_half h, even) (record { near = omega (arith, whole); half_even = λ x. omega arith }))
      (λ odd. rw (at_half h, odd) (record { near = omega (arith, whole); half_even = λ x. omega arith })))

  -- of two numbers the lower one would be half below and the higher one half above, and both would be even
  not_above : (f g : ℕ) → Nearest n m f → Nearest n m g → f ≤ g
  not_above f g x y = by_test (ltb g f) (λ e. absurd (apart (ltb-true g f e))) (ltb-false g f)
    where
      times : (i : ℕ) → g + i ≤ f → m * g + m * i ≤ m * f
      times i h = rw (← mul-add m g i) (mul-le-mul_left m h)

      neighbour : m * f ≤ m * g + m → f ≤ g + 1
      neighbour h = by_test (ltb (g + 1) f) (λ e. absurd (omega (arith, times 2 (omega (arith, ltb-true (g + 1) f e))))) (ltb-false (g + 1) f)

      apart : g < f → ⊥
      apart h =
          let near_f = x.near in
          let near_g = y.near in
          let between : m * f ≡ m * g + m = omega (arith, times 1 (omega arith)) in
          let even_f : f % 2 ≡ 0 = x.half_even (omega arith) in
          let even_g : g % 2 ≡ 0 = y.half_even (omega arith) in
          omega (arith, neighbour (omega arith))

  alone : (f : ℕ) → Nearest n m f → f ≡ fill_of n m
  alone f x = omega (arith, not_above f (fill_of n m) x nearest, not_above (fill_of n m) f nearest x)

  -- ---- document 01's fill
  down : 2 * r < m → fill_half_up n m ≡ q
  down h = div-eq_of_lt-le (2 * m) (omega (arith, whole)) (omega (arith, whole))

  up : m ≤ 2 * r → fill_half_up n m ≡ q + 1
  up h = div-eq_of_lt-le (2 * m) (omega (arith, whole)) (omega (arith, whole, less))

  before : fill_half_up n m ≡ fill_of n m + cond (eqb (2 * r) m && eqb (q % 2) 0) 1 0
  before =
      by_remainder
      (λ h. down h ∙ rw (fill_below n m h, ne_eqb (2 * r) m (omega arith)) (omega arith))
      (λ h. up (omega arith) ∙ rw (fill_above n m h, ne_eqb (2 * r) m (omega arith)) (omega arith))
      (λ h. up (omega arith) ∙ rw (at_half h, eq-eqb (2 * r) m h)
      (by_parity (λ even. rw (eq-eqb (q % 2) 0 even, even) (omega arith)) (λ odd. rw (ne_eqb (q % 2) 0 (omega arith), odd) (omega arith))))

pub fill_nearest : FillNearest
fill_nearest = nearest

pub nearest_is_fill : NearestIsFill
nearest_is_fill = alone

pub fill_before : FillBefore
fill_before = before
