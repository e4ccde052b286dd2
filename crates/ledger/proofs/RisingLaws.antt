-- What the loops over records in bytes ask: the next record, room for one, the key of record i, and whether keys rise from record i on.
use mathlib.Core.Path.{◌≡◌, refl, sym, ◌∙◌}
use mathlib.Core.Bool.{Bool, true, ◌&&◌}
use mathlib.Core.List.{List, [], ◌∷◌}
use Prim.Native.Nat.{ℕ, zero, suc, ◌+◌, ◌-◌, ◌*◌, ◌≤◌, ◌<◌}
use native.Mathlib.Nat.{le_of_suc-le-suc, suc-mul, zero-mul, add_comm, mul-le-mul_right}
use native.Mathlib.Omega.{arith}
use lib.ListN.{length, take, drop, get_or}
use lib.Seq.{drop-drop}
use Rattle.memory.proofs.SliceLaws.{length_part}
use Rattle.theory.specs.Records.{Record, entries, record_at, records, key_below, rising}

-- room for one entry more of z bytes, and for the rest after it
pub room_next : (at left z n : ℕ) → at + left * z ≤ n → 0 < left → (at + z ≤ n) × (at + z + (left - 1) * z ≤ n)
room_next at zero z n h p = absurd (omega arith)
room_next at (suc m) z n h p = let e : suc m - 1 ≡ m = omega arith in rw e (omega (arith, h), omega (arith, h))

-- the key of record i in an area, and a record for where there is none
abbrev pub key_in : ℕ → List ℕ → ℕ → List ℕ
key_in w a i = take w (drop (i * (w + 4)) a)

pub no_record : Record
no_record = record { key = []; class = 0 }

module _ (w : ℕ) where
  pub records_next : (n : ℕ) (a : List ℕ) → 0 < n → records w n a ≡ record_at w a ∷ records w (n - 1) (drop (w + 4) a)
  unfolding records entries
  records_next zero a h = absurd (omega arith)
  records_next (suc n) a h = let e : suc n - 1 ≡ n = omega arith in rw e

  key_here : (n i : ℕ) (a : List ℕ) → i < n → (get_or (records w n a) i no_record).key ≡ key_in w a i
  unfolding records entries record_at
  key_here zero i a h = absurd (omega arith)
  key_here (suc n) zero a h = rw zero-mul
  key_here (suc n) (suc i) a h = key_here n i (drop (w + 4) a) (le_of_suc-le-suc h)
      ∙ rw (suc-mul, add_comm (i * (w + 4)) (w + 4), drop-drop (i * (w + 4)) (w + 4) a)

-- ---- record i of n in an area, for keys of w bytes
pub record Row (w n : ℕ) (a : List ℕ) (i : ℕ) : Type 0 where
  pub all : n * (w + 4) ≤ length a
  pub listed : i < n

module _ {w n : ℕ} {a : List ℕ} {i : ℕ} (r : Row w n a i) where
  pub row_room : i * (w + 4) + (w + 4) ≤ length a
  row_room = omega (arith, r.all, suc-mul i (w + 4), mul-le-mul_right (w + 4) r.listed)

  pub row_wide : length (key_in w a i) ≡ w
  row_wide = length_part (i * (w + 4)) w a (omega (arith, row_room))

  pub row_key : key_in w a i ≡ (get_or (records w n a) i no_record).key
  row_key = sym (key_here w n i a r.listed)

-- ---- keys that rise, of the records from the one before record i on
rising_one : (w n : ℕ) (a : List ℕ) → n ≤ 1 → rising (records w n a) ≡ true
unfolding records entries
rising_one w zero a h = refl
rising_one w (suc zero) a h = refl
rising_one w (suc (suc n)) a h = absurd (omega arith)

module _ (w n : ℕ) (a : List ℕ) where
  abbrev pub records_before : ℕ → List Record
  records_before i = records w (n - (i - 1)) (drop ((i - 1) * (w + 4)) a)

  rising_turn : (i : ℕ) → 1 ≤ i → i < n
      → rising (records_before i) ≡ (key_below (key_in w a (i - 1)) (key_in w a i) && rising (records_before (i + 1)))
  unfolding record_at
  rising_turn zero h l = absurd (omega arith)
  rising_turn (suc i) h l =
      let here : suc i - 1 ≡ i = omega arith in
      let there : suc i + 1 - 1 ≡ suc i = omega arith in
      let next : i * (w + 4) + (w + 4) ≡ suc i * (w + 4) = omega arith in
      let fewer : n - i - 1 ≡ n - suc i = omega arith in
      let first = records_next w (n - i) (drop (i * (w + 4)) a) (omega arith) in
      let second = records_next w (n - suc i) (drop (suc i * (w + 4)) a) (omega arith) in
      rw (here, there, first, drop-drop (w + 4) (i * (w + 4)) a, next, fewer, second)

  -- as the code compares the keys of the two, with what test t gave
  pub rising_by : (i : ℕ) → 1 ≤ i → i < n → (k next : List ℕ) → k ≡ key_in w a (i - 1) → next ≡ key_in w a i → (t b : Bool) → t ≡ key_below k next → t ≡ b
      → rising (records_before i) ≡ (b && rising (records_before (i + 1)))
  rising_by i h l k next e f t b g q = rising_turn i h l ∙ rw (← e, ← f, ← g, q)

  pub rising_end : (i : ℕ) → n ≤ i → rising (records_before i) ≡ true
  rising_end i h = rising_one w (n - (i - 1)) (drop ((i - 1) * (w + 4)) a) (omega arith)
