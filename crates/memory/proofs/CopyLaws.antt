-- A list made like another one, one element a turn from the first: so one is copied, and one is cleared.
use mathlib.Core.Path.{◌≡◌, sym, ◌∙◌}
use mathlib.Core.List.{List}
use Prim.Native.Nat.{ℕ, ◌+◌, ◌≤◌, ◌<◌}
use native.Mathlib.Numerals.{add-one}
use native.Mathlib.Omega.{arith}
use lib.ListN.{length, take, get_or, set, length-set}
use lib.Seq.{take-suc, take-suc-set, take_all}

-- the first i elements are those of the other
pub record Copied (from to : List ℕ) (i : ℕ) : Type 0 where
  pub inside : i ≤ length from
  pub long : length to ≡ length from
  pub front : take i to ≡ take i from

module _ {from to : List ℕ} {i : ℕ} (c : Copied from to i) where
  pub copied_more : (x : ℕ) → x ≡ get_or from i 0 → i < length from → Copied from (set to i x) (i + 1)
  copied_more x e h =
      record {
        inside = omega arith;
        long = simp length-set c.long;
        front = rw (e, add-one i, take-suc-set to i (get_or from i 0) (omega (arith, c.long)), take-suc from i 0 h, c.front);
      }

  pub copied_all : length from ≤ i → to ≡ from
  copied_all h = sym (take_all i to (omega (arith, c.long))) ∙ c.front ∙ take_all i from h
