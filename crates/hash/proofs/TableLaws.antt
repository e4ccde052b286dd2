-- The two constant tables are the tables of the definitions, each by one computed test over it.
use mathlib.Core.Path.{◌≡◌, refl, ap₂, ◌∙◌}
use mathlib.Core.Bool.{Bool, true, false, ◌&&◌, false≢true}
use mathlib.Core.List.{List, [], ◌∷◌}
use Prim.Native.Nat.{ℕ, ◌*◌, ◌≤◌}
use native.Mathlib.Nat.{mul-zero}
use native.Mathlib.Omega.{arith}
use lib.Dec.{eqb}
use lib.ListN.{length}
use borrow.Author.Tests.{eqb-true}
use Rattle.theory.specs.Settings.{ipv4_width, ipv6_width}
use Rattle.theory.proofs.ListLaws.{and_left, and_right}
use Rattle.hash.specs.Digits.{table_entries}
use Rattle.hash.proofs.Constants.{rows, table, half_table}
use Rattle.hash.proofs.RowLaws.{rows_from, length_rows}
use Rattle.hash.proofs.Doubling.{doubled, block, built, built_is}

-- the test: two lists have the same numbers
unfoldable same : List ℕ → List ℕ → Bool
same [] [] = true
same [] (y ∷ ys) = false
same (x ∷ xs) [] = false
same (x ∷ xs) (y ∷ ys) = eqb x y && same xs ys

same_is : (xs ys : List ℕ) → same xs ys ≡ true → xs ≡ ys
unfolding same
same_is [] [] e = refl
same_is [] (y ∷ ys) e = absurd (false≢true e)
same_is (x ∷ xs) [] e = absurd (false≢true e)
same_is (x ∷ xs) (y ∷ ys) e =
    ap₂ (λ (z : ℕ) (zs : List ℕ). z ∷ zs) (eqb-true x y (and_left (eqb x y) (same xs ys) e)) (same_is xs ys (and_right (eqb x y) (same xs ys) e))

-- a list that passes the test against the table built of the rows is the table of the definitions
tested_is : (bits places : ℕ) (t : List ℕ) → bits * places ≤ length rows → same t (built bits places rows) ≡ true → t ≡ table_entries bits places
unfolding table_entries
tested_is bits places t h e = same_is t (built bits places rows) e ∙ built_is bits places 0 rows h (rw mul-zero rows_from)

-- antt computes the test over each whole table
tested : same table (built 8 ipv4_width rows) ≡ true
unfolding table rows same built block doubled
tested = refl

half_tested : same half_table (built 4 (2 * ipv6_width) rows) ≡ true
unfolding half_table rows same built block doubled
half_tested = refl

pub table_is : table ≡ table_entries 8 ipv4_width
table_is = tested_is 8 ipv4_width table (omega (arith, length_rows)) tested

pub half_table_is : half_table ≡ table_entries 4 (2 * ipv6_width)
half_table_is = tested_is 4 (2 * ipv6_width) half_table (omega (arith, length_rows)) half_tested
