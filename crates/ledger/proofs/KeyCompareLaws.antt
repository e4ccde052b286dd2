-- What the loops over bytes ask: each test of two keys, or of the bytes of a part, from one place on, by the byte there and the test from the next;
-- and of two keys by words of eight bytes.
use mathlib.Core.Path.{◌≡◌, refl, sym, ap, ap₂, ◌∙◌}
use mathlib.Core.Bool.{Bool, true, false, ◌&&◌, true≢false}
use mathlib.Core.List.{List, [], ◌∷◌, ◌++◌}
use Prim.Native.Nat.{ℕ, ◌+◌, ◌≤◌}
use native.Mathlib.Omega.{arith}
use lib.Dec.{eqb}
use lib.Pointwise.{pointwise}
use borrow.Author.Tests.{eq-eqb, ne_eqb}
use lib.ListN.{length, take, drop, length-drop, take-append-drop}
use lib.Seq.{length-take-le, take-add, take_all, take-take}
use Rattle.theory.specs.Records.{same_key}
use Rattle.theory.proofs.ListLaws.{by_test, and_left, and_right, All, all_take, all_drop}
use Rattle.theory.proofs.ByteLaws.{Byte}
use Rattle.theory.proofs.PlacingLaws.{same_key_eq}
use Rattle.memory.specs.Words.{low_first}
use Rattle.memory.proofs.SliceLaws.{length_part}
use Rattle.memory.proofs.ByteNumberLaws.{low_first_one}

-- a test that does not hold
pub false_by : (t : Bool) → (t ≡ true → ⊥) → t ≡ false
false_by true f = absurd (f refl)
false_by false f = refl

pub same_self : (l : List ℕ) → same_key l l ≡ true
same_self [] = refl
same_self (x ∷ xs) = rw (eq-eqb x x refl, same_self xs)

-- two keys by two parts of each, the first parts of one length
same_parts : (a b c d : List ℕ) → length a ≡ length b → same_key (a ++ c) (b ++ d) ≡ (same_key a b && same_key c d)
same_parts [] [] c d n = refl
same_parts [] (y ∷ ys) c d n = absurd (omega arith)
same_parts (x ∷ xs) [] c d n = absurd (omega arith)
same_parts (x ∷ xs) (y ∷ ys) c d n = by_test (eqb x y) (λ e. rw e (same_parts xs ys c d (omega arith))) (λ e. rw e)

-- two lists of as many bytes by their numbers
same_by_number : (a b : List ℕ) → length a ≡ length b → All Byte a → All Byte b → eqb (low_first a) (low_first b) ≡ same_key a b
same_by_number a b n ba bb =
    by_test (same_key a b) (λ e. rw e (eq-eqb (low_first a) (low_first b) (ap low_first (same_key_eq a b e))))
    (λ e. rw e (ne_eqb (low_first a) (low_first b) (λ q. true≢false (sym (rw (low_first_one a b n ba bb q) (same_self b)) ∙ e))))

-- the eight bytes of a key from a place on
abbrev pub word : List ℕ → ℕ → List ℕ
word a i = take 8 (drop i a)

pub same_by_word : (a b : List ℕ) (i : ℕ) → All Byte a → All Byte b → i + 8 ≤ length a → i + 8 ≤ length b
    → eqb (low_first (word a i)) (low_first (word b i)) ≡ same_key (word a i) (word b i)
same_by_word a b i ba bb ha hb =
    same_by_number (word a i) (word b i) (length_part i 8 a ha ∙ sym (length_part i 8 b hb))
    (all_take Byte 8 (drop i a) (all_drop Byte i a ba)) (all_take Byte 8 (drop i b) (all_drop Byte i b bb))

-- ---- two keys of one length, by words of eight bytes and the last eight bytes
module _ (a b : List ℕ) (n : length a ≡ length b) where
  -- one word more
  pub same_word_more : (i : ℕ) (r : Bool) → i + 8 ≤ length a
      → (same_key (word a i) (word b i) && (same_key (take i a) (take i b) && r)) ≡ (same_key (take (i + 8) a) (take (i + 8) b) && r)
  same_word_more i r h =
      let long : length (take i a) ≡ length (take i b) = length-take-le i a (omega arith) ∙ sym (length-take-le i b (omega arith)) in
      rw (take-add i 8 a, take-add i 8 b, same_parts (take i a) (take i b) (word a i) (word b i) long)
      (swap (same_key (word a i) (word b i)) (same_key (take i a) (take i b)))
    where
      swap : (p q : Bool) → (p && (q && r)) ≡ ((q && p) && r)
      swap true true = refl
      swap true false = refl
      swap false true = refl
      swap false false = refl

  -- words that reach the last eight bytes, and these
  module _ (last i : ℕ) (e : last + 8 ≡ length a) (h : last ≤ i) where
    equal_keys : (same_key (take i a) (take i b) && same_key (word a last) (word b last)) ≡ true → a ≡ b
    equal_keys q =
        let front : take i a ≡ take i b = same_key_eq (take i a) (take i b) (and_left _ _ q) in
        let end : word a last ≡ word b last = same_key_eq (word a last) (word b last) (and_right (same_key (take i a) (take i b)) _ q) in
        let whole_a : word a last ≡ drop last a = take_all 8 (drop last a) (rw length-drop (omega arith)) in
        let whole_b : word b last ≡ drop last b = take_all 8 (drop last b) (rw length-drop (omega arith)) in
        sym (take-append-drop last a)
        ∙ ap₂ (λ (p q : List ℕ). p ++ q) (sym (take-take last i a h) ∙ ap (take last) front ∙ take-take last i b h) (sym whole_a ∙ end ∙ whole_b)
        ∙ take-append-drop last b

    pub same_all : (same_key (take i a) (take i b) && same_key (word a last) (word b last)) ≡ same_key a b
    same_all =
        by_test (same_key a b) (λ q. rw (same_key_eq a b q, same_self (take i b), same_self (word b last), same_self b))
        (λ q. rw q (false_by (same_key (take i a) (take i b) && same_key (word a last) (word b last))
        (λ p. true≢false (sym (rw (equal_keys p) (same_self b)) ∙ q))))

-- ---- std's comparison of two slices of bytes
pub same_by_pairs : (a b : List ℕ) → pointwise eqb a b ≡ same_key a b
same_by_pairs [] [] = refl
same_by_pairs [] (y ∷ ys) = refl
same_by_pairs (x ∷ xs) [] = refl
same_by_pairs (x ∷ xs) (y ∷ ys) = rw (same_by_pairs xs ys)
