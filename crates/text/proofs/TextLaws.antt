-- Laws of text at the start of a buffer: a number's digits, and one text after another.
use mathlib.Core.Path.{◌≡◌, subst, ◌∙◌}
use mathlib.Core.List.{List, ◌++◌, append_assoc}
use Prim.Native.Nat.{ℕ, zero, suc, ◌*◌, ◌/◌, ◌%◌, ◌^◌, ◌≤◌, ◌<◌}
use native.Mathlib.Nat.{pow-suc, pow-zero}
use native.Mathlib.Numerals.{unary_clauses}
use native.Mathlib.Omega.{arith}
use borrow.Author.Tests.{lt-ltb}
use lib.ListN.{length-append}
use Rattle.theory.specs.Flowrun.{decimal}
use Rattle.theory.proofs.FlowrunLaws.{decimal_digit, decimal_more}
use Rattle.io.specs.Digits.{last_digits, IsDigitCount}
use Rattle.text.specs.declared.Text.{Text}
use Rattle.text.specs.Writing.{Writes, Appends, Grows}

tens_positive : (k : ℕ) → 0 < 10 ^ k
tens_positive zero = rw (pow-zero 10) (omega arith)
tens_positive (suc k) = rw (pow-suc 10 k) (omega (arith, tens_positive k))

-- the fewest digits that hold a number are its decimal text
digits_decimal : (k n : ℕ) → IsDigitCount 10 1 n (suc k) → last_digits 10 (suc k) n ≡ decimal n
digits_decimal zero n h =
    let low : n < 10 = omega (arith, h.1, pow-suc 10 0) in
    let same : n % 10 ≡ n = omega arith in
    rw (decimal_digit n low, same, lt-ltb n 10 low)
digits_decimal (suc k) n h =
    let low : n < 10 ^ k * 10 * 10 = simp unary_clauses at h.1 in
    let high : 10 ^ k * 10 ≤ n = simp unary_clauses at (h.2 (omega arith)) in
    let tenth : IsDigitCount 10 1 (n / 10) (suc k) = (omega arith, simp unary_clauses (omega (arith, low)), λ q. simp unary_clauses (omega (arith, high))) in
    rw (decimal_more n (omega (arith, high, tens_positive k)), digits_decimal k (n / 10) tenth, lt-ltb (n % 10) 10 (omega arith))

pub fewest_decimal : (k n : ℕ) → IsDigitCount 10 1 n k → last_digits 10 k n ≡ decimal n
fewest_decimal zero n h = absurd (omega (arith, h.0))
fewest_decimal (suc k) n h = digits_decimal k n h

-- two texts that are appended are their text
pub appends_then : (t u a b c : List ℕ) (n m k : ℕ) → Appends t a n b m → Appends u b m c k → Appends (t ++ u) a n c k
appends_then t u a b c n m k f g empty earlier w =
    subst (λ (x : List ℕ). Writes x empty c k) (append_assoc earlier t u) (g empty (earlier ++ t) (f empty earlier w))

pub grows_then : {a b : List ℕ} {t u v : Text} → Grows a t u → Grows b u v → Grows (a ++ b) t v
grows_then {a} {b} {t} {u} {v} x y =
    record {
      appended = appends_then a b _ _ _ _ _ _ x.appended y.appended;
      ends = rw length-append (omega (arith, x.ends, y.ends));
      long = y.long ∙ x.long;
      same = y.same ∙ x.same;
    }
