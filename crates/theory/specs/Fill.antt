-- Document 02, U4: what is claimed of the fill without its formula, and where it differs from document 01's. Proofs: FillLaws.
use Rattle.std.specs.Prelude.{◌≡◌, cond, ◌&&◌, ℕ, ◌+◌, ◌-◌, ◌*◌, ◌/◌, ◌%◌, ◌≤◌, ◌<◌, eqb}
use Rattle.theory.specs.Ledger.{fill_of}

-- of two differences one is zero
abbrev pub distance : ℕ → ℕ → ℕ
distance x y = x - y + (y - x)

-- f is the whole number nearest to 100 n / m: twice the distance from m × f to 100 n is at most m. Where it is m, a half, f is even
pub record Nearest (n m f : ℕ) : Type 0 where
  pub near : 2 * distance (m * f) (100 * n) ≤ m
  pub half_even : 2 * distance (m * f) (100 * n) ≡ m → f % 2 ≡ 0

-- so is the fill: fill_nearest
abbrev pub FillNearest : Type 0
FillNearest = (n m : ℕ) → 0 < m → Nearest n m (fill_of n m)

-- and no other number is: nearest_is_fill
abbrev pub NearestIsFill : Type 0
NearestIsFill = (n m : ℕ) → 0 < m → (f : ℕ) → Nearest n m f → f ≡ fill_of n m

-- document 01's fill, whose half goes up
abbrev pub fill_half_up : ℕ → ℕ → ℕ
fill_half_up n m = (200 * n + m) / (2 * m)

-- the fill is document 01's but at a half above an even number, where it is one less: fill_before
abbrev pub FillBefore : Type 0
FillBefore = (n m : ℕ) → 0 < m → fill_half_up n m ≡ fill_of n m + cond (eqb (2 * (100 * n % m)) m && eqb (100 * n / m % 2) 0) 1 0
