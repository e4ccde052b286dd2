-- Laws of a head as it is written: numbers of two bytes one after the other, and the first count, the settings and the second count as three parts.
use mathlib.Core.Path.{◌≡◌, refl, sym, ap, ◌∙◌}
use mathlib.Core.List.{List, [], ◌∷◌, ◌++◌, append_assoc, append-nil}
use Prim.Native.Nat.{ℕ, ◌+◌, ◌-◌, ◌*◌, ◌≤◌, ◌<◌}
use Rattle.std.proofs.Common.{add-one}
use native.Mathlib.Omega.{arith}
use lib.ListN.{length, take, drop, get_or, length-append, length-drop, drop_of_length-le}
use lib.Seq.{take_at, drop_at, drop-drop, take_all, length-take-le, take-suc}
use Rattle.theory.specs.Lists.{flat, All}
use Rattle.theory.specs.Settings as plain
use Rattle.theory.specs.Settings.{allowed}
use Rattle.theory.specs.Records.{to_bytes}
use Rattle.theory.specs.Snapshot.{settings_count, first_count, head_size, settings_list}
use Rattle.theory.proofs.ListLaws.{all_at, all_take}
use Rattle.theory.proofs.ByteLaws.{length_to_bytes}
use Rattle.theory.proofs.SnapshotLaws.{head, length_words, first_count_most}
use Rattle.memory.proofs.SliceLaws.{back, tail_is, tail_back}

-- ---- numbers one after the other, as far as i of them
flat_append : (xs ys : List ℕ) → flat (to_bytes 2) (xs ++ ys) ≡ flat (to_bytes 2) xs ++ flat (to_bytes 2) ys
flat_append [] ys = refl
flat_append (x ∷ xs) ys = rw (flat_append xs ys, append_assoc)

pub numbers_more : (ns xs : List ℕ) (i : ℕ) {now ys : List ℕ} → i < length ns → length xs ≡ 2 * length ns
    → now ≡ flat (to_bytes 2) (take i ns) ++ drop (2 * i) xs → ys ≡ to_bytes 2 (get_or ns i 0) ++ drop 2 (take (length now - 2 * i) (drop (2 * i) now))
    → back (2 * i) (length now - 2 * i) now ys ≡ flat (to_bytes 2) (take (i + 1) ns) ++ drop (2 * (i + 1)) xs
numbers_more ns xs i {now} {ys} h full is written =
    let within : i ≤ length ns = omega arith in
    let long : length (flat (to_bytes 2) (take i ns)) ≡ 2 * i = length_words (take i ns) ∙ ap (λ (n : ℕ). 2 * n) (length-take-le i ns within) in
    let inside : 2 * i ≤ length now = rw (is, length-append, long) (omega arith) in
    let next : 2 * i + 2 ≡ 2 * (i + 1) = omega arith in
    let more : flat (to_bytes 2) (take (i + 1) ns) ≡ flat (to_bytes 2) (take i ns) ++ to_bytes 2 (get_or ns i 0) =
    rw (add-one, take-suc ns i 0 h, flat_append (take i ns) (get_or ns i 0 ∷ []), append-nil) in
    tail_back (2 * i) now ys inside
    ∙ rw (
      written,
      tail_is (2 * i) now inside,
      is,
      take_at (flat (to_bytes 2) (take i ns)) (drop (2 * i) xs) (2 * i) long,
      drop_at (flat (to_bytes 2) (take i ns)) (drop (2 * i) xs) (2 * i) long,
      drop-drop 2 (2 * i) xs,
      next,
      more,
      append_assoc,
    )

pub numbers_all : (ns xs : List ℕ) (i : ℕ) {now : List ℕ} → length ns ≤ i → length xs ≡ 2 * length ns
    → now ≡ flat (to_bytes 2) (take i ns) ++ drop (2 * i) xs → now ≡ flat (to_bytes 2) ns
numbers_all ns xs i h full is =
    let none : length xs ≤ 2 * i = omega arith in is ∙ rw (take_all i ns h, drop_of_length-le xs none, append-nil)

-- ---- the head, in three parts: x, once the first count is written, y, once as many of seven numbers l are, and the second count
module _ (t : plain.Settings) (n : ℕ) (xs l : List ℕ) (seven : length l ≡ settings_count) {first second : ℕ} (known : first ≡ first_count t)
    (place : second ≡ 2 + 2 * first) (full : length xs ≡ head_size (first_count t)) where
  pub numbers_long : length (take first l) ≡ first
  numbers_long = length-take-le first l (omega (arith, seven, known, first_count_most t))

  pub numbers_small : All (λ n. n < 65536) l → (k d : ℕ) → k < length (take first l) → get_or (take first l) k d < 65536
  numbers_small small k d h = all_at (λ n. n < 65536) (take first l) k d h (all_take (λ n. n < 65536) first l small)

  pub numbers_fill : {x : List ℕ} → x ≡ to_bytes 2 first ++ drop 2 xs → length (take (second - 2) (drop 2 x)) ≡ 2 * length (take first l)
  numbers_fill counted =
      let fits : second - 2 ≤ length (drop 2 xs) = rw length-drop (omega (arith, full, place, known)) in
      rw (counted, drop_at (to_bytes 2 first) (drop 2 xs) 2 (length_to_bytes 2 first), length-take-le (second - 2) (drop 2 xs) fits, numbers_long)
      (omega (arith, place))

  module _ {x y zs : List ℕ} (counted : x ≡ to_bytes 2 first ++ drop 2 xs) (numbers : zs ≡ flat (to_bytes 2) (take first l))
      (joined : y ≡ back 2 (second - 2) x zs) where
    abbrev front : List ℕ
    front = to_bytes 2 first ++ zs

    front_long : length front ≡ second
    front_long = rw (length-append, length_to_bytes, numbers, length_words, numbers_long) (sym place)

    y_is : y ≡ front ++ drop second xs
    y_is =
        let two = length_to_bytes 2 first in
        let rest : 2 + (second - 2) ≡ second = omega arith in
        joined
        ∙ rw (
          counted,
          take_at (to_bytes 2 first) (drop 2 xs) 2 two,
          drop_at (to_bytes 2 first) (drop 2 xs) 2 two,
          drop-drop (second - 2) 2 xs,
          rest,
          append_assoc,
        )

    second_within : second + 2 ≡ length y
    second_within = rw (y_is, length-append, front_long, length-drop) (omega (arith, full, place, known))

    pub head_written : l ≡ settings_list t → {ys : List ℕ} → ys ≡ to_bytes 2 n ++ drop 2 (take (length y - second) (drop second y))
        → back second (length y - second) y ys ≡ flat (to_bytes 2) (head t n)
    head_written listed {ys} written =
        let inside : second ≤ length y = omega (arith, second_within) in
        let none : length xs ≤ second + 2 = omega (arith, full, place, known) in
        tail_back second y ys inside
        ∙ rw (
          written,
          tail_is second y inside,
          y_is,
          take_at front (drop second xs) second front_long,
          drop_at front (drop second xs) second front_long,
          drop-drop 2 second xs,
          drop_of_length-le xs none,
          numbers,
          listed,
          ← known,
          flat_append (take first (settings_list t)) (n ∷ []),
          append_assoc,
        )
