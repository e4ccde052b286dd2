-- H splits at any byte, and the rows of a digit at any bit; zeros give nothing.
use mathlib.Core.Path.{◌≡◌, refl, sym, ap, ap₂, ◌∙◌}
use mathlib.Core.List.{[], ◌∷◌}
use Prim.Native.Nat.{ℕ, zero, suc, ◌+◌, ◌*◌, ◌/◌, ◌%◌, ◌^◌}
use native.Mathlib.Nat.{add-zero, suc-add, zero-add, add-suc, pow-suc, pow-succ', div-one, div-div-eq-div-mul}
use native.Mathlib.Omega.{arith}
use lib.Arith.{mod-mul}
use lib.Dec.{lit<}
use lib.Pow.{pow_pos}
use lib.Bits.{bit_xor, xor_zero_l, xor_zero_r}
use lib.ListN.{length, replicate}
use Rattle.theory.specs.Hash.{row, if_set, rows_of, H_from, H}
use Rattle.hash.specs.Widths.{HSplits, HZeros}
use Rattle.hash.proofs.Xor.{xor_assoc}

pub h_splits : HSplits
unfolding H_from
h_splits a [] ys = ap (λ (n : ℕ). H_from n ys) (sym (add-zero a))
h_splits a (x ∷ xs) ys =
    let next : suc a + length xs ≡ a + suc (length xs) = suc-add a (length xs) ∙ sym (add-suc a (length xs)) in
    rw (h_splits (suc a) xs ys, next)
    (sym (xor_assoc (rows_of 8 (8 * a) x) (H_from (suc a) xs) (H_from (a + suc (length xs)) ys)))

zero_rows : (n i : ℕ) → rows_of n i 0 ≡ 0
unfolding rows_of if_set
zero_rows zero i = refl
zero_rows (suc n) i = zero_rows n (suc i)

zero_bytes : (a n : ℕ) → H_from a (replicate n 0) ≡ 0
unfolding H_from
zero_bytes a zero = refl
zero_bytes a (suc n) = ap₂ bit_xor (zero_rows 8 (8 * a)) (zero_bytes (suc a) n)

pub h_zeros : HZeros
unfolding H
h_zeros key n =
    h_splits 0 key (replicate n 0) ∙ ap (bit_xor (H_from 0 key)) (zero_bytes (0 + length key) n) ∙ xor_zero_r (H_from 0 key)

-- rows by the low m bits of v, and by the bits above them
low_rows : (m i v : ℕ) → rows_of m i (v % 2 ^ m) ≡ rows_of m i v
unfolding rows_of
low_rows zero i v = refl
low_rows (suc m) i v =
    let low : v % 2 ^ suc m ≡ (v / 2 % 2 ^ m) * 2 + v % 2 = rw (pow-suc 2 m) (mod-mul v (pow_pos m) (lit< tt)) in
    let bit : v % 2 ^ suc m % 2 ≡ v % 2 = omega arith in
    let above : v % 2 ^ suc m / 2 ≡ v / 2 % 2 ^ m = omega arith in rw (bit, above, low_rows m (suc i) (v / 2))

above_rows : (m n i v : ℕ) → rows_of (m + n) i v ≡ bit_xor (rows_of m i v) (rows_of n (i + m) (v / 2 ^ m))
unfolding rows_of
above_rows zero n i v = rw (zero-add n, add-zero i, div-one v, xor_zero_l (rows_of n i v))
above_rows (suc m) n i v =
    let next : suc i + m ≡ i + suc m = suc-add i m ∙ sym (add-suc i m) in
    let above : v / 2 / 2 ^ m ≡ v / 2 ^ suc m = div-div-eq-div-mul v 2 (2 ^ m) ∙ ap (λ (d : ℕ). v / d) (sym (pow-succ' 2 m)) in
    rw (suc-add m n, above_rows m n (suc i) (v / 2), next, above)
    (sym (xor_assoc (if_set (v % 2) (row i)) (rows_of m (suc i) (v / 2)) (rows_of n (i + suc m) (v / 2 ^ suc m))))

pub rows_split : (m n i v : ℕ) → rows_of (m + n) i v ≡ bit_xor (rows_of m i (v % 2 ^ m)) (rows_of n (i + m) (v / 2 ^ m))
rows_split m n i v = rw (low_rows m i v) (above_rows m n i v)
