-- Parts of a slice that are lent: their lengths, what a part read to the end is, and the slice once a part is back as other bytes; zeros; rows of one size;
-- bytes.
use mathlib.Core.Path.{◌≡◌, refl, subst, ◌∙◌}
use mathlib.Core.Logic.{◌≢◌}
use mathlib.Core.List.{List, [], ◌∷◌, ◌++◌, append_assoc, append-nil}
use Prim.Native.Nat.{ℕ, zero, suc, ◌+◌, ◌-◌, ◌*◌, ◌≤◌, ◌<◌}
use native.Mathlib.Nat.{add-sub_cancel_left, add_comm, add-zero, zero-mul, suc-mul, mul-le-mul_right, sub-zero, le_refl, le_of_suc-le-suc, not-suc-le-zero}
use native.Mathlib.Numerals.{add-one}
use native.Mathlib.Omega.{arith}
use mir.Syntax.{w8}
use mir.Val.{Fits}
use lib.ListN.{length, take, drop, replicate, get_or, length-append, length-drop, drop_of_length-le}
use lib.Seq.{length-take-le, take_all, take_at, drop_at, take-append-add}
use Rattle.theory.specs.Lists.{flat, upto}
use Rattle.theory.proofs.ListLaws.{All, length_drop_past}
use Rattle.theory.proofs.GrowingLaws.{flat_cong, upto_from}
use Rattle.theory.proofs.ByteLaws.{Byte}

-- n zeros
abbrev pub zeros : ℕ → List ℕ
zeros n = replicate n 0

-- k bytes from a on are back as ys
abbrev pub back : ℕ → ℕ → List ℕ → List ℕ → List ℕ
back a k xs ys = take a xs ++ (ys ++ drop k (drop a xs))

pub length_part : (a k : ℕ) (xs : List ℕ) → a + k ≤ length xs → length (take k (drop a xs)) ≡ k
length_part a k xs fits = length-take-le k (drop a xs) (rw length-drop (omega arith))

pub two_kept : (a k : ℕ) (xs ys : List ℕ) → 2 ≤ a → a ≤ length xs → 2 ≤ length (back a k xs ys)
two_kept a k xs ys two fits = rw (length-append, length-take-le a xs fits) (omega arith)

-- the part from a to a + k, as it is lent
pub length_lent : (a k : ℕ) (xs : List ℕ) → a + k ≤ length xs → length (take (a + k - a) (drop a xs)) ≡ k
length_lent a k xs fits = rw (add-sub_cancel_left a k) (length_part a k xs fits)

-- the part that runs to the end
pub tail_is : (a : ℕ) (xs : List ℕ) → a ≤ length xs → take (length xs - a) (drop a xs) ≡ drop a xs
tail_is a xs fits = take_all (length xs - a) (drop a xs) (rw length-drop (omega arith))

pub tail_back : (a : ℕ) (xs ys : List ℕ) → a ≤ length xs → back a (length xs - a) xs ys ≡ take a xs ++ ys
tail_back a xs ys fits = rw (drop_of_length-le (drop a xs) none, append-nil)
  where
    none : length (drop a xs) ≤ length xs - a
    none = rw length-drop (omega arith)

pub zeros_drop : (n m : ℕ) → drop m (zeros n) ≡ zeros (n - m)
zeros_drop n zero = rw sub-zero
zeros_drop zero (suc m) = let e : zero - suc m ≡ 0 = omega arith in rw e
zeros_drop (suc n) (suc m) = let e : suc n - suc m ≡ n - m = omega arith in rw e (zeros_drop n m)

module _ (a k : ℕ) (xs ys : List ℕ) (fits : a + k ≤ length xs) (size : length ys ≡ k) where
  pub length_back : length (back a k xs ys) ≡ length xs
  length_back = simp (length-append, size, length-take-le a xs (omega arith), length-drop) (omega arith)

  pub take_back : take (a + k) (back a k xs ys) ≡ take a xs ++ ys
  take_back =
      rw (← append_assoc (take a xs) ys (drop k (drop a xs)))
      (take_at (take a xs ++ ys) (drop k (drop a xs)) (a + k) (rw (length-append, size, length-take-le a xs (omega arith))))

-- the part from a to a + k as it is lent, and the area with it back, by equal numbers and lists
pub lent_is : (a b k j : ℕ) (xs us : List ℕ) → a ≡ b → k ≡ j → xs ≡ us → take (a + k - a) (drop a xs) ≡ take j (drop b us)
lent_is a b k j xs us e f g = rw (add-sub_cancel_left a k, e, f, g)

pub back_is : (a b k j : ℕ) (xs us ys zs : List ℕ) → a ≡ b → k ≡ j → xs ≡ us → ys ≡ zs → back a (a + k - a) xs ys ≡ back b j us zs
back_is a b k j xs us ys zs e f g h = rw (add-sub_cancel_left a k, e, f, g, h)

-- ---- the first m elements, back as ys
module _ (m : ℕ) (xs ys : List ℕ) (fits : m ≤ length xs) (e : length ys ≡ m) where
  pub front_length : length (ys ++ drop m xs) ≡ length xs
  front_length = simp (length-append, e, length-drop) (omega arith)

  pub front_take : take m (ys ++ drop m xs) ≡ ys
  front_take = take_at ys (drop m xs) m e

  pub front_drop : drop m (ys ++ drop m xs) ≡ drop m xs
  front_drop = drop_at ys (drop m xs) m e

-- ---- what follows place m, lent to the end, and back as ys
module _ (m : ℕ) (xs : List ℕ) (fits : m ≤ length xs) where
  pub length_tail : length (take (length xs - m) (drop m xs)) ≡ length xs - m
  length_tail = rw (tail_is m xs fits, length-drop)

  module _ (ys : List ℕ) where
    pub tail_length : length ys ≡ length xs - m → length (back m (length xs - m) xs ys) ≡ length xs
    tail_length e = simp (length-append, e, length-take-le m xs fits, length-drop) (omega arith)

    pub tail_take : take m (back m (length xs - m) xs ys) ≡ take m xs
    tail_take = take_at (take m xs) (ys ++ drop (length xs - m) (drop m xs)) m (length-take-le m xs fits)

    pub tail_drop : drop m (back m (length xs - m) xs ys) ≡ ys
    tail_drop = rw (tail_back m xs ys fits) (drop_at (take m xs) ys m (length-take-le m xs fits))

-- ---- n, k and j places of xs, lent one after the other and back as ys, zs, vs
module _ (n k j : ℕ) (xs : List ℕ) (long : length xs ≡ n + k + j) where
  pub first_lent : length (take n xs) ≡ n
  first_lent = length-take-le n xs (omega arith)

  module _ (ys : List ℕ) (e : length ys ≡ n) where
    abbrev pub once : List ℕ
    once = ys ++ drop n xs

    once_long : length once ≡ n + k + j
    once_long = front_length n xs ys (omega arith) e ∙ long

    pub second_lent : length (take (n + k - n) (drop n once)) ≡ k
    second_lent = rw add-sub_cancel_left (length-take-le k (drop n once) (rw length-drop (omega (arith, once_long))))

    module _ (zs : List ℕ) (f : length zs ≡ k) where
      abbrev pub twice : List ℕ
      twice = take n once ++ (zs ++ drop (n + k - n) (drop n once))

      twice_is : twice ≡ (ys ++ zs) ++ drop k (drop n xs)
      twice_is = rw (front_take n xs ys (omega arith) e, front_drop n xs ys (omega arith) e, add-sub_cancel_left, append_assoc)

      front_two : length (ys ++ zs) ≡ n + k
      front_two = rw (length-append, e, f)

      twice_long : length twice ≡ n + k + j
      twice_long = rw (twice_is, length-append, front_two, length-drop, length-drop, long) (omega arith)

      pub third_lent : length (take (length twice - (n + k)) (drop (n + k) twice)) ≡ j
      third_lent = length_tail (n + k) twice (omega (arith, twice_long)) ∙ omega (arith, twice_long)

      pub three_back : (vs : List ℕ) → take (n + k) twice ++ (vs ++ drop (length twice - (n + k)) (drop (n + k) twice)) ≡ ys ++ (zs ++ vs)
      three_back vs =
          let kept : take (n + k) twice ≡ ys ++ zs = rw twice_is (take_at (ys ++ zs) (drop k (drop n xs)) (n + k) front_two) in
          let past : length (drop (n + k) twice) ≤ length twice - (n + k) = rw length-drop (le_refl (length twice - (n + k))) in
          rw (kept, drop_of_length-le (drop (n + k) twice) past, append-nil, append_assoc)

-- ---- the elements of a part of zeros
pub zero_at : (n x : ℕ) → get_or (zeros n) x 0 ≡ 0
zero_at zero x = refl
zero_at (suc n) zero = refl
zero_at (suc n) (suc x) = zero_at n x

pub zero_at_take : (n m x : ℕ) → get_or (take m (zeros n)) x 0 ≡ 0
zero_at_take n zero x = refl
zero_at_take zero (suc m) x = refl
zero_at_take (suc n) (suc m) zero = refl
zero_at_take (suc n) (suc m) (suc x) = zero_at_take n m x

pub zero_at_drop : (n m x : ℕ) → get_or (drop m (zeros n)) x 0 ≡ 0
zero_at_drop n m x = rw zeros_drop (zero_at (n - m) x)

-- row b of m rows of z
pub row_fits : (b m z : ℕ) → b < m → b * z + z ≤ m * z
row_fits b m z h = rw (← suc-mul b z) (mul-le-mul_right z h)

pub row_next : (a b z : ℕ) → a ≡ b * z → a + z ≡ (b + 1) * z
row_next a b z e = rw (add-one b, suc-mul b z, e)

take_past : (p q : List ℕ) (n k : ℕ) → length p ≡ n → take (n + k) (p ++ q) ≡ p ++ take k q
take_past p q n k e = subst (λ (m : ℕ). take (m + k) (p ++ q) ≡ p ++ take k q) e (take-append-add p q k)

-- rows of size z: row i back as another one's
pub flat_set : (f g : ℕ → List ℕ) (z : ℕ) → ((b : ℕ) → length (f b) ≡ z) → (a n i : ℕ) → i < n → ((x : ℕ) → x ≢ a + i → f x ≡ g x)
    → back (i * z) z (flat f (upto a n)) (g (a + i)) ≡ flat g (upto a n)
flat_set f g z e a zero i h o = absurd (not-suc-le-zero h)
flat_set f g z e a (suc n) zero h o =
    rw (
      zero-mul,
      add-zero,
      drop_at (f a) (flat f (upto (suc a) n)) z (e a),
      flat_cong f g (upto (suc a) n)
          (upto_from (λ x. f x ≡ g x) (suc a) n (λ x q. o x (omega arith))),
    )
flat_set f g z e a (suc n) (suc i) h o =
    let s : suc i * z ≡ z + i * z = suc-mul i z ∙ add_comm (i * z) z in
    let q : a + suc i ≡ suc a + i = omega arith in
    rw (s, q, take_past (f a) (flat f (upto (suc a) n)) z (i * z) (e a), length_drop_past (f a) (flat f (upto (suc a) n)) z (i * z) (e a))
    (rw (append_assoc, flat_set f g z e (suc a) n i (le_of_suc-le-suc h) (λ x t. o x (λ y. t (y ∙ q))), o a (omega arith)))

-- ---- bytes
-- what a slice of bytes gives of each element, of all
pub bytes_of : (l : List ℕ) → ((i : ℕ) → Fits w8 (get_or l i 0)) → All Byte l
bytes_of [] f = tt
bytes_of (x ∷ xs) f = (omega (arith, f 0), bytes_of xs (λ i. f (suc i)))
