-- Laws of a trial's numbers: what a call adds, and that 64 bits hold what 2^32 calls add.
use mathlib.Core.Path.{◌≡◌, refl}
use mathlib.Core.Bool.{Bool, true, false, cond}
use mir.Val.{bool_byte}
use Prim.Native.Nat.{ℕ, ◌+◌, ◌*◌, ◌≤◌, ◌<◌, max}
use native.Mathlib.Omega.{arith}
use lib.Dec.{ltb}
use borrow.Author.Tests.{ltb-true, ltb-false}
use Rattle.theory.specs.Trials.{Numbers, no_numbers, greater}
use Rattle.theory.proofs.ListLaws.{by_test}
use Rattle.trials.specs.Data.{Grown}

pub byte_is : (b : Bool) → bool_byte b ≡ cond b 1 0
byte_is true = refl
byte_is false = refl

pub greater_is : (a b : ℕ) → max a b ≡ greater a b
greater_is a b =
    by_test (ltb a b) (λ q. let less : a < b = ltb-true a b q in rw q (omega arith)) (λ q. let more : b ≤ a = ltb-false a b q in rw q (omega arith))

-- with so many calls left, of 2^32 at most
pub record Bounded (left : ℕ) (x : Numbers) : Type 0 where
  pub refused_6 : x.refused_6 + left ≤ 4294967296
  pub refused_7 : x.refused_7 + left ≤ 4294967296
  pub refused_8 : x.refused_8 + left ≤ 4294967296
  pub refused_9 : x.refused_9 + left ≤ 4294967296
  pub compared : x.compared + 4294967295 * left ≤ 18446744069414584320

pub bounded_none : (left : ℕ) → left ≤ 4294967296 → Bounded left no_numbers
bounded_none left h =
    record { refused_6 = omega arith; refused_7 = omega arith; refused_8 = omega arith; refused_9 = omega arith; compared = omega arith }

pub bounded_less : {left less : ℕ} {x y : Numbers} → Bounded left x → Grown x y → less + 1 ≡ left → Bounded less y
bounded_less h g e =
    record {
      refused_6 = omega (arith, h.refused_6, g.refused_6);
      refused_7 = omega (arith, h.refused_7, g.refused_7);
      refused_8 = omega (arith, h.refused_8, g.refused_8);
      refused_9 = omega (arith, h.refused_9, g.refused_9);
      compared = omega (arith, h.compared, g.compared);
    }
