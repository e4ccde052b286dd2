-- What the code leaves in the area and answers is what the definitions say.
use mathlib.Core.Path.{◌≡◌, refl, ap, ◌∙◌}
use mathlib.Core.Logic.{◌≢◌, ◌⊎◌, inl, inr}
use mathlib.Core.Bool.{Bool, true, false, cond, not, ◌&&◌, and-false}
use mathlib.Core.List.{List, [], ◌∷◌, ◌++◌}
use Prim.Native.Nat.{ℕ, zero, suc, ◌+◌, ◌-◌, ◌/◌, ◌%◌, ◌^◌, ◌≤◌, ◌<◌, max}
use native.Mathlib.Omega.{arith}
use mir.Val.{bool_byte}
use lib.Dec.{eqb}
use borrow.Author.Tests.{eq-eqb, ne_eqb, le-leb, lt-leb}
use lib.ListN.{length, get_or, set, replicate}
use Rattle.theory.specs.Lists.{filter, upto}
use Rattle.theory.specs.Window.{Entry, window_size, oldest_at, many_at, held_at, side_at, compared_at, ring_at, entry_word, word_entry}
use Rattle.theory.specs.Window.{window_length, greatest, counts_told, told_answer, entry_of, words_after, raised, counted, oldest_out, put_in, put_for_oldest}
use Rattle.theory.specs.Lookup.{accepted}
use Rattle.theory.proofs.ListLaws.{by_test, all_stored}
use Rattle.theory.proofs.GrowingLaws.{upto_more, filter_append}
use Rattle.window.specs.Windows.{Written, clear_of, enter_of, remove_of, counts_of}

-- a flag as a number
pub flag_is : (b : Bool) {n : ℕ} → n ≡ bool_byte b → n ≡ cond b 1 0
flag_is true e = e
flag_is false e = e

-- ---- what the code leaves, step by step: four counts; an entry taken out; one put in; one put in for another
module _ (words : List ℕ) where
  pub counted_all : (n held side compared : ℕ) {one two three four : List ℕ} → one ≡ raised many_at n words → two ≡ raised held_at held one
      → three ≡ raised side_at side two → four ≡ raised (compared_at + compared) n three → four ≡ counted n held side compared words
  unfolding counted
  counted_all n held side compared e1 e2 e3 e4 = rw (e4, e3, e2, e1)

  module _ (e : Entry) {oldest : ℕ} (first : oldest ≡ get_or words oldest_at 0) where
    pub taken_out : e ≡ word_entry (get_or words (ring_at + oldest % window_size) 0) → {after : List ℕ}
        → after ≡ counted (2 ^ 16 - 1) (2 ^ 16 - e.held) (2 ^ 16 - e.side_compared) e.records_compared
        (set words oldest_at ((oldest % window_size + 1) % window_size)) → after ≡ oldest_out words
    unfolding oldest_out
    taken_out ee e1 = rw (e1, ee, first)

    module _ {many word : ℕ} (entries : many ≡ get_or words many_at 0) (as_word : word ≡ entry_word e) where
      pub come_in : {after : List ℕ}
          → after ≡ counted 1 e.held e.side_compared e.records_compared (set words (ring_at + (oldest + many) % window_size) word)
          → after ≡ put_in e words
      unfolding put_in
      come_in e1 = rw (e1, as_word, entries, first)

      pub come_for : (left : Entry) → left ≡ word_entry (get_or words (ring_at + oldest % window_size) 0) → {one two three four : List ℕ}
          → one ≡ raised held_at (e.held + (2 ^ 16 - left.held))
          (set (set words (ring_at + (oldest + many) % window_size) word) oldest_at ((oldest % window_size + 1) % window_size))
          → two ≡ raised side_at (e.side_compared + (2 ^ 16 - left.side_compared)) one
          → three ≡ raised (compared_at + left.records_compared) (2 ^ 16 - 1) two → four ≡ raised (compared_at + e.records_compared) 1 three
          → four ≡ put_for_oldest e words
      unfolding put_for_oldest
      come_for left el e1 e2 e3 e4 = rw (e4, e3, e2, e1, el, as_word, entries, first)

-- ---- the greatest number below c that passes a test, and one number more
abbrev pub greatest_below : (ℕ → Bool) → ℕ → ℕ
greatest_below p c = greatest (filter p (upto 0 c))

greatest_append : (l m : List ℕ) → greatest (l ++ m) ≡ max (greatest l) (greatest m)
greatest_append [] m = omega arith
greatest_append (x ∷ l) m = omega (arith, greatest_append l m)

module _ (p : ℕ → Bool) where
  greatest_most : (a n : ℕ) → greatest (filter p (upto a n)) ≤ a + n
  greatest_most a zero = omega arith
  greatest_most a (suc n) =
      let rest = greatest_most (suc a) n in by_test (p a) (λ e. rw e (omega (arith, rest))) (λ e. rw e (omega (arith, rest)))

  pub greatest_more : (c : ℕ) {g r : ℕ} → g ≡ greatest_below p c → r ≡ cond (p c) c g → r ≡ greatest_below p (c + 1)
  greatest_more c e f =
      rw (f, e, upto_more c, filter_append p, greatest_append)
      (by_test (p c) (λ t. rw t (omega (arith, greatest_most 0 c))) (λ t. rw t (omega arith)))

-- some entry compared so many records
abbrev pub met : List ℕ → ℕ → Bool
met words c = not (eqb (get_or words (compared_at + c) 0) 0)

pub greatest_told : (words : List ℕ) (c : ℕ) {g : ℕ} → c ≡ 65 → g ≡ greatest_below (met words) c → g ≡ (counts_told words).greatest_compared
unfolding counts_told
greatest_told words c all e = e ∙ ap (greatest_below (met words)) all

-- ---- the calls: what the code leaves is what the call answers
-- the number 0, and the area as it is left
abbrev Leaves : List ℕ → Written → Type 0
Leaves area = ◌≡◌ (record { number = 0; area = area })

module _ (words : List ℕ) (long : length words ≡ window_length) where
  pub cleared : {area : List ℕ} → area ≡ replicate (length words) 0 → Leaves area (clear_of words)
  unfolding clear_of words_after
  cleared e = rw (eq-eqb (length words) window_length long, e, long)

  pub removed : {area : List ℕ} → get_or words many_at 0 ≢ 0 → area ≡ oldest_out words → Leaves area (remove_of words)
  unfolding remove_of words_after
  removed some e = rw (eq-eqb (length words) window_length long, ne_eqb (get_or words many_at 0) 0 some, e)

  pub none_removed : get_or words many_at 0 ≡ 0 → Leaves words (remove_of words)
  unfolding remove_of words_after
  none_removed none = rw (eq-eqb (length words) window_length long, eq-eqb (get_or words many_at 0) 0 none)

-- a window's area and three counts, of the right lengths
abbrev pub both_right : List ℕ → List ℕ → Bool
both_right words counts = eqb (length words) window_length && eqb (length counts) 3

pub record Right (words counts : List ℕ) : Type 0 where
  pub long : length words ≡ window_length
  pub three : length counts ≡ 3

pub not_right : (words counts : List ℕ) → (length words ≢ window_length) ⊎ ((length words ≡ window_length) × (length counts ≢ 3))
    → both_right words counts ≡ false
not_right words counts (inl other) = rw (ne_eqb (length words) window_length other)
not_right words counts (inr other) = rw (ne_eqb (length counts) 3 other.1, and-false)

-- two counts as the area tells them
held_told : (words : List ℕ) → (counts_told words).held ≡ get_or words held_at 0
unfolding counts_told
held_told words = refl

side_told : (words : List ℕ) → (counts_told words).side_compared ≡ get_or words side_at 0
unfolding counts_told
side_told words = refl

module _ {words counts : List ℕ} (r : Right words counts) where
  both : both_right words counts ≡ true
  both = rw (eq-eqb (length words) window_length r.long, eq-eqb (length counts) 3 r.three)

  pub refused : (found : ℕ) → accepted (found / 2 ^ 32) ≡ false → Leaves words (enter_of words found counts)
  unfolding enter_of words_after told_answer
  refused found out = rw (both, out)

  module _ (found : ℕ) {e : Entry} {area : List ℕ} (ok : accepted (found / 2 ^ 32) ≡ true) (entry : e ≡ entry_of (told_answer found counts)) where
    pub entered_full : window_size ≤ get_or words many_at 0 → area ≡ put_for_oldest e words → Leaves area (enter_of words found counts)
    unfolding enter_of words_after told_answer
    entered_full full put = rw (both, ok, le-leb window_size (get_or words many_at 0) full, put, entry)

    pub entered : get_or words many_at 0 < window_size → area ≡ put_in e words → Leaves area (enter_of words found counts)
    unfolding enter_of words_after told_answer
    entered room put = rw (both, ok, lt-leb window_size (get_or words many_at 0) room, put, entry)

  pub told : {g : ℕ} → g ≡ (counts_told words).greatest_compared
      → Leaves (set (set (set counts 0 (get_or words held_at 0)) 1 (get_or words side_at 0)) 2 g) (counts_of words counts)
  unfolding counts_of
  told {g} e = rw (both, held_told words, side_told words, ← e, all_stored (get_or words held_at 0 ∷ get_or words side_at 0 ∷ g ∷ []) counts r.three)
