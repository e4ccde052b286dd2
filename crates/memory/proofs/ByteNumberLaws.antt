-- Numbers in bytes: what std's conversions from and to bytes give is what theory says of them.
use Rattle.std.proofs.Common.{◌≡◌, refl, ◌∙◌, List, [], ◌∷◌, ◌++◌, ℕ, suc, ◌+◌, ◌/◌, ◌≤◌, length, take, drop, get_or, arith}
use Rattle.std.specs.Int.{w16, w32, w64, from_le_bytes, from_be_bytes, to_be_bytes}
use native.Mathlib.Numerals.{add-one, add-two, add-three}
use lib.Seq.{drop-cons, drop-drop, take-add}
use Rattle.theory.specs.Records.{to_bytes, number_after, of_bytes}
use Rattle.theory.proofs.ListLaws.{All}
use Rattle.theory.proofs.ByteLaws.{Byte}
use Rattle.memory.specs.Words.{low_first}

pub count_read : (l : List ℕ) → 2 ≤ length l → from_be_bytes w16 (take 2 l) ≡ of_bytes (take 2 l)
unfolding number_after
count_read (x ∷ y ∷ ys) h = omega arith
count_read [] h = absurd (omega arith)
count_read (x ∷ []) h = absurd (omega arith)

module _ (l : List ℕ) (i : ℕ) where
  -- four bytes from a place on, one by one, and eight as twice four
  four_at : i + 4 ≤ length l → take 4 (drop i l) ≡ get_or l i 0 ∷ get_or l (i + 1) 0 ∷ get_or l (i + 2) 0 ∷ get_or l (i + 3) 0 ∷ []
  four_at h =
      rw (add-one, add-two, add-three, drop-cons l i 0 (omega arith), drop-cons l (suc i) 0 (omega arith), drop-cons l (suc (suc i)) 0 (omega arith))
      (rw (drop-cons l (suc (suc (suc i))) 0 (omega arith)))

  pub class_read : i + 4 ≤ length l → from_be_bytes w32 (take 4 (drop i l)) ≡ of_bytes (take 4 (drop i l))
  unfolding number_after
  class_read h = rw (four_at h) (omega arith)

module _ (l : List ℕ) (i : ℕ) (h : i + 8 ≤ length l) where
  eight_at : take 8 (drop i l)
      ≡ (get_or l i 0 ∷ get_or l (i + 1) 0 ∷ get_or l (i + 2) 0 ∷ get_or l (i + 3) 0 ∷ [])
      ++ (get_or l (i + 4) 0 ∷ get_or l (i + 4 + 1) 0 ∷ get_or l (i + 4 + 2) 0 ∷ get_or l (i + 4 + 3) 0 ∷ [])
  eight_at = take-add 4 4 (drop i l) ∙ rw (drop-drop, four_at l i (omega arith), four_at l (i + 4) (omega arith))

  pub eight_read : from_be_bytes w64 (take 8 (drop i l)) ≡ of_bytes (take 8 (drop i l))
  unfolding number_after
  eight_read = rw eight_at (omega arith)

  pub word_read : from_le_bytes w64 (take 8 (drop i l)) ≡ low_first (take 8 (drop i l))
  unfolding low_first
  word_read = rw eight_at (omega arith)

-- n in two, four and eight bytes
pub two_written : (n : ℕ) → to_be_bytes w16 n ≡ to_bytes 2 n
unfolding to_bytes
two_written n = refl

pub class_written : (n : ℕ) → to_be_bytes w32 n ≡ to_bytes 4 n
unfolding to_bytes
class_written n =
    let e : n / 65536 ≡ n / 256 / 256 = omega arith in
    let f : n / 16777216 ≡ n / 256 / 256 / 256 = omega arith in
    rw (e, f)

pub eight_written : (n : ℕ) → to_be_bytes w64 n ≡ to_bytes 8 n
unfolding to_bytes
eight_written n =
    let a : n / 65536 ≡ n / 256 / 256 = omega arith in
    let b : n / 16777216 ≡ n / 256 / 256 / 256 = omega arith in
    let c : n / 4294967296 ≡ n / 256 / 256 / 256 / 256 = omega arith in
    let d : n / 1099511627776 ≡ n / 256 / 256 / 256 / 256 / 256 = omega arith in
    let e : n / 281474976710656 ≡ n / 256 / 256 / 256 / 256 / 256 / 256 = omega arith in
    let f : n / 72057594037927936 ≡ n / 256 / 256 / 256 / 256 / 256 / 256 / 256 = omega arith in
    rw (a, b, c, d, e, f)

-- lists of as many bytes with one number are the same
pub low_first_one : (a b : List ℕ) → length a ≡ length b → All Byte a → All Byte b → low_first a ≡ low_first b → a ≡ b
unfolding low_first
low_first_one [] [] n ba bb e = refl
low_first_one [] (y ∷ ys) n ba bb e = absurd (omega arith)
low_first_one (x ∷ xs) [] n ba bb e = absurd (omega arith)
low_first_one (x ∷ xs) (y ∷ ys) n ba bb e =
    let first : x ≡ y = omega (arith, ba.0, bb.0) in
    let rest : low_first xs ≡ low_first ys = omega (arith, ba.0, bb.0) in
    let more : xs ≡ ys = low_first_one xs ys (omega arith) ba.1 bb.1 rest in
    rw (first, more)
