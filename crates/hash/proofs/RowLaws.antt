-- A list whose numbers follow one another by xorshift64 is the rows from some row on: one test of the list, and what it gives.
use mathlib.Core.Path.{◌≡◌, refl, sym, ap, ap₂, ◌∙◌, subst}
use mathlib.Core.Bool.{Bool, true, ◌&&◌}
use mathlib.Core.List.{List, [], ◌∷◌, map}
use Prim.Native.Nat.{ℕ, zero, suc, ◌+◌, ◌-◌, ◌*◌, ◌/◌, ◌%◌, ◌≤◌, ◌<◌}
use native.Mathlib.Nat.{le_of_suc-le-suc, zero-add, add-zero, suc-add, add-suc}
use native.Mathlib.Omega.{arith}
use lib.Dec.{eqb}
use lib.Bits.{bit_xor}
use lib.ListN.{length, take, drop, length-drop}
use borrow.Author.Tests.{eqb-true}
use Rattle.theory.specs.Lists.{upto}
use Rattle.theory.specs.Settings.{ipv6_width}
use Rattle.theory.specs.Hash.{xorshift64, start, row, if_set, rows_of}
use Rattle.theory.proofs.ListLaws.{and_left, and_right}
use Rattle.hash.specs.Table.{xor_set}
use Rattle.hash.proofs.Constants.{rows}

-- the test: each number is one step from the number before it, the first from s
unfoldable pub follow : ℕ → List ℕ → Bool
follow s [] = true
follow s (r ∷ rs) = eqb r (xorshift64 s) && follow r rs

-- what row i is one step from
abbrev pub before : ℕ → ℕ
before zero = start
before (suc i) = row i

row_step : (i : ℕ) → row i ≡ xorshift64 (before i)
unfolding row
row_step zero = refl
row_step (suc i) = refl

-- the list is the rows from row i on
abbrev pub From : ℕ → List ℕ → Type 0
From i rs = follow (before i) rs ≡ true

first : (i r : ℕ) (rs : List ℕ) → From i (r ∷ rs) → r ≡ row i
unfolding follow
first i r rs e = eqb-true r (xorshift64 (before i)) (and_left (eqb r (xorshift64 (before i))) (follow r rs) e) ∙ sym (row_step i)

rest : (i r : ℕ) (rs : List ℕ) → From i (r ∷ rs) → From (suc i) rs
unfolding follow
rest i r rs e = subst (λ (s : ℕ). follow s rs ≡ true) (first i r rs e) (and_right (eqb r (xorshift64 (before i))) (follow r rs) e)

pub from_drop : (n i : ℕ) (rs : List ℕ) → n ≤ length rs → From i rs → From (i + n) (drop n rs)
from_drop zero i rs h e = subst (λ (k : ℕ). From k rs) (sym (add-zero i)) e
from_drop (suc n) i [] h e = absurd (omega arith)
from_drop (suc n) i (r ∷ rs) h e =
    subst (λ (k : ℕ). From k (drop n rs)) (suc-add i n ∙ sym (add-suc i n)) (from_drop n (suc i) rs (le_of_suc-le-suc h) (rest i r rs e))

-- so its xor over set bits is that of the rows
pub xor_set_rows : (n i : ℕ) (rs : List ℕ) → n ≤ length rs → From i rs → (v : ℕ) → xor_set (take n rs) v ≡ rows_of n i v
unfolding xor_set rows_of
xor_set_rows zero i rs h e v = refl
xor_set_rows (suc n) i [] h e v = absurd (omega arith)
xor_set_rows (suc n) i (r ∷ rs) h e v =
    ap₂ bit_xor (ap (if_set (v % 2)) (first i r rs e)) (xor_set_rows n (suc i) rs (le_of_suc-le-suc h) (rest i r rs e) (v / 2))

-- the constants are the first rows: antt computes the test
pub rows_from : From 0 rows
unfolding rows follow xorshift64
rows_from = refl

pub length_rows : length rows ≡ 8 * ipv6_width
unfolding rows
length_rows = refl

from_is : (i : ℕ) (rs : List ℕ) → From i rs → rs ≡ map row (upto i (length rs))
from_is i [] e = refl
from_is i (r ∷ rs) e = ap₂ (λ (x : ℕ) (xs : List ℕ). x ∷ xs) (first i r rs e) (from_is (suc i) rs (rest i r rs e))

pub rows_are : rows ≡ map row (upto 0 (8 * ipv6_width))
rows_are = from_is 0 rows rows_from ∙ ap (λ (n : ℕ). map row (upto 0 n)) length_rows

-- the eight rows of byte a of a key
pub byte_is : (a : ℕ) → 8 * a + 8 ≤ length rows → (v : ℕ) → xor_set (take 8 (drop (8 * a) rows)) v ≡ rows_of 8 (8 * a) v
byte_is a within v =
    let eight : 8 ≤ length (drop (8 * a) rows) = rw length-drop (omega arith) in
    let here : From (8 * a) (drop (8 * a) rows) = rw zero-add at (from_drop (8 * a) 0 rows (omega arith) rows_from) in
    xor_set_rows 8 (8 * a) (drop (8 * a) rows) eight here v

-- as code lends them, out of the rows of the longest key
pub lent_rows : (rs : List ℕ) → rs ≡ map row (upto 0 (8 * ipv6_width)) → (a : ℕ) → a < ipv6_width → (v : ℕ)
    → xor_set (take (8 * a + 8 - 8 * a) (drop (8 * a) rs)) v ≡ rows_of 8 (8 * a) v
lent_rows rs e a h v =
    let eight : 8 * a + 8 - 8 * a ≡ 8 = omega arith in
    let within : 8 * a + 8 ≤ length rows = rw length_rows (omega arith) in
    rw eight (ap (λ (l : List ℕ). xor_set (take 8 (drop (8 * a) l)) v) (e ∙ sym rows_are) ∙ byte_is a within v)
