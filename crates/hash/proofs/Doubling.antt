-- A table built of rows with one xor for two entries, and what it is: the xor over set bits at each value.
use mathlib.Core.Path.{◌≡◌, refl, sym, ap, ap₂, ◌∙◌, subst}
use mathlib.Core.List.{List, [], ◌∷◌, ◌++◌, map}
use Prim.Native.Nat.{ℕ, zero, suc, ◌*◌, ◌/◌, ◌%◌, ◌^◌, ◌≤◌}
use native.Mathlib.Nat.{pow-suc, mul-suc}
use native.Mathlib.Omega.{arith}
use lib.Bits.{bit_xor}
use lib.ListN.{length, take, drop, length-drop}
use lib.Seq.{length-take-le}
use Rattle.theory.specs.Lists.{flat, upto}
use Rattle.theory.specs.Hash.{if_set, rows_of}
use Rattle.theory.proofs.ListLaws.{all_every, map_cong}
use Rattle.hash.specs.Digits.{table_entries_at}
use Rattle.hash.specs.Table.{xor_set}
use Rattle.hash.proofs.RowLaws.{From, from_drop, xor_set_rows}

-- each entry, and its xor with row r
unfoldable pub doubled : ℕ → List ℕ → List ℕ
doubled r [] = []
doubled r (x ∷ xs) = x ∷ bit_xor r x ∷ doubled r xs

-- the entries of one position, a row for each of its bits
unfoldable pub block : List ℕ → List ℕ
block [] = 0 ∷ []
block (r ∷ rs) = doubled r (block rs)

-- the entries of positions of some number of bits
unfoldable pub built : ℕ → ℕ → List ℕ → List ℕ
built bits zero rs = []
built bits (suc places) rs = block (take bits rs) ++ built bits places (drop bits rs)

-- an entry of a doubled list, by the lowest bit of its place
abbrev lowest : ℕ → (ℕ → ℕ) → ℕ → ℕ
lowest r f v = bit_xor (if_set (v % 2) r) (f (v / 2))

lowest_even : (r : ℕ) (f : ℕ → ℕ) (a : ℕ) → f a ≡ lowest r f (a * 2)
unfolding if_set
lowest_even r f a =
    let bit : a * 2 % 2 ≡ 0 = omega arith in
    let half : a * 2 / 2 ≡ a = omega arith in rw (bit, half)

lowest_odd : (r : ℕ) (f : ℕ → ℕ) (a : ℕ) → bit_xor r (f a) ≡ lowest r f (suc (a * 2))
unfolding if_set
lowest_odd r f a =
    let bit : suc (a * 2) % 2 ≡ 1 = omega arith in
    let half : suc (a * 2) / 2 ≡ a = omega arith in rw (bit, half)

doubled_is : (r : ℕ) (f : ℕ → ℕ) (a n : ℕ) → doubled r (map f (upto a n)) ≡ map (lowest r f) (upto (a * 2) (n * 2))
unfolding doubled
doubled_is r f a zero = refl
doubled_is r f a (suc n) =
    let more : suc n * 2 ≡ suc (suc (n * 2)) = omega arith in
    let next : suc a * 2 ≡ suc (suc (a * 2)) = omega arith in
    rw (more, ← lowest_even r f a, ← lowest_odd r f a, doubled_is r f (suc a) n, next)

block_is : (rs : List ℕ) → block rs ≡ map (xor_set rs) (upto 0 (2 ^ length rs))
unfolding block xor_set
block_is [] = refl
block_is (r ∷ rs) =
    ap (doubled r) (block_is rs)
    ∙ doubled_is r (xor_set rs) 0 (2 ^ length rs)
    ∙ ap (λ (n : ℕ). map (xor_set (r ∷ rs)) (upto 0 n)) (sym (pow-suc 2 (length rs)))

block_rows : (n i : ℕ) (rs : List ℕ) → n ≤ length rs → From i rs → block (take n rs) ≡ map (λ v. rows_of n i v) (upto 0 (2 ^ n))
block_rows n i rs h e =
    block_is (take n rs)
    ∙ ap (λ (k : ℕ). map (xor_set (take n rs)) (upto 0 (2 ^ k))) (length-take-le n rs h)
    ∙ map_cong (xor_set (take n rs)) (λ v. rows_of n i v) (upto 0 (2 ^ n)) (all_every (xor_set_rows n i rs h e) (upto 0 (2 ^ n)))

pub built_is : (bits places a : ℕ) (rs : List ℕ) → bits * places ≤ length rs → From (bits * a) rs
    → built bits places rs ≡ flat (table_entries_at bits) (upto a places)
unfolding built table_entries_at
built_is bits zero a rs h e = refl
built_is bits (suc n) a rs h e =
    let more = mul-suc bits n in
    let first : bits ≤ length rs = omega arith in
    let here = block_rows bits (bits * a) rs first e in
    let next = subst (λ (i : ℕ). From i (drop bits rs)) (sym (mul-suc bits a)) (from_drop bits (bits * a) rs first e) in
    ap₂ (λ (x y : List ℕ). x ++ y) here (built_is bits n (suc a) (drop bits rs) (omega (arith, length-drop bits rs)) next)
