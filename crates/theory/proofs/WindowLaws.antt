-- Laws of the window (document 02, U5): after any calls the area's ring is the plain window and its counts are a fresh count; the window is the latest 1,024.
use mathlib.Core.Path.{◌≡◌, refl, ap, ◌∙◌}
use mathlib.Core.Logic.{◌≢◌}
use mathlib.Core.Bool.{Bool, true, false, cond, not, false≢true}
use mathlib.Core.List.{List, [], ◌∷◌, ◌++◌, map, append-nil}
use Prim.Native.Nat.{ℕ, zero, suc, ◌+◌, ◌-◌, ◌*◌, ◌/◌, ◌%◌, ◌^◌, ◌≤◌, ◌<◌, min, zero-le}
use native.Mathlib.Nat.{mod-eq_of_lt, mod-add-mod, add-zero, zero-add, add_comm, add_assoc, add-suc, suc-add}
use native.Mathlib.Omega.{arith}
use lib.Dec.{eqb, leb, ltb}
use borrow.Author.Tests.{eqb-true, eqb-false, eq-eqb, ne_eqb, leb-true, leb-false, ltb-true, ltb-false}
use lib.ListN.{length, drop, get_or, set, replicate, length-append, length-drop, length-set, length-replicate, get_or-replicate, get_or-append}
use lib.Seq.{get_or-set_same, get_or-set_other, get_or-append_seam, drop-append-le, drop-drop, append_snoc}
use Rattle.theory.specs.Lists.{filter, upto, has, sum, All}
use Rattle.theory.specs.Lookup.{Answer, accepted, driver_number}
use Rattle.theory.specs.Window.{Entry, most_compared, entry_of, window_size, latest, WindowCall, clear_window, enter, remove_oldest, window_after}
use Rattle.theory.specs.Window.{greatest, fresh_count, told_answer, AnswerTold, oldest_at, many_at, held_at, side_at, compared_at, ring_at, window_length}
use Rattle.theory.specs.Window.{entry_word, word_entry, raised, counted, oldest_out, put_in, put_for_oldest}
use Rattle.theory.specs.Window.{words_after, counts_told, ring_entries, after_calls}
use Rattle.theory.specs.Window.{WindowCountsFresh, WindowRing, WindowFew, WindowLatest}
use Rattle.theory.proofs.ListLaws.{by_test, either, eqb_same, all_every, all_map, all_of_map, all_at, all_append, all_upto, all_has}
use Rattle.theory.proofs.ListLaws.{map_cong, filter_cong}

-- ---- an answer, told by the driver's number and three counts
pub answer_told : AnswerTold
unfolding told_answer driver_number
answer_told x small =
    let number : (x.number * 2 ^ 32 + x.class) / 2 ^ 32 ≡ x.number = omega arith in
    let class : (x.number * 2 ^ 32 + x.class) % 2 ^ 32 ≡ x.class = omega arith in
    rw (number, class)

-- ---- an entry of an answer is small, and a small entry is its word's entry
record Small (e : Entry) : Type 0 where
  held : e.held ≤ 1
  side_compared : e.side_compared ≤ 1
  records_compared : e.records_compared ≤ most_compared

entry_small : (x : Answer) → Small (entry_of x)
unfolding entry_of
entry_small x =
    record {
      held = by_test (eqb x.number 0) (λ t. rw t (omega arith)) (λ t. rw t (omega arith));
      side_compared = by_test (eqb x.side_compared 0) (λ t. rw t (omega arith)) (λ t. rw t (omega arith));
      records_compared = omega arith;
    }

word_back : (e : Entry) → Small e → word_entry (entry_word e) ≡ e
unfolding word_entry entry_word
word_back e s =
    let word = e.held + 2 * e.side_compared + 4 * e.records_compared in
    let half : word / 2 ≡ e.side_compared + 2 * e.records_compared = omega (arith, s) in
    let held : word % 2 ≡ e.held = omega arith in
    let quarter : (e.side_compared + 2 * e.records_compared) / 2 ≡ e.records_compared = omega (arith, s) in
    let side : (e.side_compared + 2 * e.records_compared) % 2 ≡ e.side_compared = omega arith in
    let compared : min (word / 4) most_compared ≡ e.records_compared = omega (arith, s) in
    rw (half, held, side, compared)

-- ---- sums over a list
module _ {A : Type 0} (f : A → ℕ) where
  sum_few : (b : ℕ) (l : List A) → All (λ x. f x ≤ b) l → sum (map f l) ≤ b * length l
  sum_few b [] few = omega arith
  sum_few b (x ∷ xs) few = omega (arith, few.0, sum_few b xs few.1)

  sum_end : (l : List A) (x : A) → sum (map f (l ++ (x ∷ []))) ≡ sum (map f l) + f x
  sum_end [] x = omega arith
  sum_end (y ∷ ys) x = omega (arith, sum_end ys x)

sum_ones : {A : Type 0} (l : List A) → sum (map (λ x. 1) l) ≡ length l
sum_ones [] = refl
sum_ones (x ∷ xs) = omega (arith, sum_ones xs)

-- ---- counts changed, each by a number added to the word at its place, modulo 2^16; the last of the list first
record Change : Type 0 where
  place : ℕ
  by : ℕ

abbrev changed : List Change → List ℕ → List ℕ
changed [] words = words
changed (c ∷ cs) words = raised c.place c.by (changed cs words)

-- what they add to the word at j
abbrev adds : ℕ → Change → ℕ
adds j c = cond (eqb j c.place) c.by 0

abbrev added : ℕ → List Change → ℕ
added j cs = sum (map (adds j) cs)

-- what takes a change back, and that it does
abbrev opposite : Change → Change
opposite c = record { place = c.place; by = 2 ^ 16 - c.by }

back_again : (j x : ℕ) (cs : List Change) → All (λ c. c.by ≤ 1) cs → (added j cs + x + added j (map opposite cs)) % 2 ^ 16 ≡ x % 2 ^ 16
back_again j x [] few = omega arith
back_again j x (c ∷ cs) few =
    let rest = back_again j x cs few.1 in
    by_test (eqb j c.place) (λ t. rw t (omega (arith, few.0))) (λ t. rw t (omega arith))

-- the places that hold counts
abbrev Inner : ℕ → Type 0
Inner j = (0 < j) × (j < ring_at)

length_changed : (cs : List Change) (words : List ℕ) → length (changed cs words) ≡ length words
unfolding raised
length_changed [] words = refl
length_changed (c ∷ cs) words = length-set (changed cs words) c.place _ ∙ length_changed cs words

raised_word : (i n j x : ℕ) (words : List ℕ) → i < length words → get_or words j 0 ≡ x % 2 ^ 16
    → get_or (raised i n words) j 0 ≡ (x + cond (eqb j i) n 0) % 2 ^ 16
unfolding raised
raised_word i n j x words inside is =
    by_test (eqb j i)
    (λ t. rw (t, eqb-true j i t, get_or-set_same words i _ 0 inside, ← (eqb-true j i t), is) (mod-add-mod x (2 ^ 16) n))
    (λ t. rw (t, add-zero) (get_or-set_other words i j _ 0 (eqb-false j i t) ∙ is))

module _ (words : List ℕ) (j : ℕ) where
  changed_word : (cs : List Change) (x : ℕ) → All (λ c. Inner c.place) cs → length words ≡ window_length → get_or words j 0 ≡ x % 2 ^ 16
      → get_or (changed cs words) j 0 ≡ (x + added j cs) % 2 ^ 16
  changed_word [] x inner long is = rw add-zero is
  changed_word (c ∷ cs) x inner long is =
      rw (add_comm _ (added j cs), ← add_assoc)
      (raised_word c.place c.by j (x + added j cs) (changed cs words) (omega (arith, length_changed cs words, inner.0))
      (changed_word cs x inner.1 long is))

  changed_other : (cs : List Change) → All (λ c. Inner c.place) cs → (Inner j → ⊥) → get_or (changed cs words) j 0 ≡ get_or words j 0
  unfolding raised
  changed_other [] inner outer = refl
  changed_other (c ∷ cs) inner outer =
      get_or-set_other (changed cs words) c.place j _ 0 (λ e. outer (rw e inner.0)) ∙ changed_other cs inner.1 outer

-- ---- in an area, a word v put at a place p that holds no count, and then counts changed
abbrev altered : List ℕ → ℕ → ℕ → List Change → List ℕ
altered words p v cs = changed cs (set words p v)

record Alters (words : List ℕ) (p v : ℕ) (cs : List Change) : Type 0 where
  long : length words ≡ window_length
  outer : (p < window_length) × (Inner p → ⊥)
  inner : All (λ c. Inner c.place) cs

module _ {words : List ℕ} {p v : ℕ} {cs : List Change} (a : Alters words p v cs) where
  length_altered : length (altered words p v cs) ≡ window_length
  length_altered = length_changed cs (set words p v) ∙ length-set words p v ∙ a.long

  word_put : get_or (altered words p v cs) p 0 ≡ v
  word_put = changed_other (set words p v) p cs a.inner a.outer.1 ∙ get_or-set_same words p v 0 (omega (arith, a.long, a.outer.0))

  word_kept : (j : ℕ) → (Inner j → ⊥) → j ≢ p → get_or (altered words p v cs) j 0 ≡ get_or words j 0
  word_kept j outer other = changed_other (set words p v) j cs a.inner outer ∙ get_or-set_other words p j v 0 other

  count_changed : (j x : ℕ) → Inner j → get_or words j 0 ≡ x % 2 ^ 16 → get_or (altered words p v cs) j 0 ≡ (x + added j cs) % 2 ^ 16
  count_changed j x inner is =
      changed_word (set words p v) j cs x a.inner (length-set words p v ∙ a.long)
      (get_or-set_other words p j v 0 (λ e. a.outer.1 (rw (← e) inner)) ∙ is)

-- ---- what an entry changes: four counts, by one at most
abbrev changes : Entry → List Change
changes e =
    record { place = compared_at + e.records_compared; by = 1 }
    ∷ record { place = side_at; by = e.side_compared }
    ∷ record { place = held_at; by = e.held }
    ∷ record { place = many_at; by = 1 }
    ∷ []

-- its share in the count at j
abbrev share : ℕ → Entry → ℕ
share j e = added j (changes e)

module _ (e : Entry) (s : Small e) where
  changes_inner : All (λ c. Inner c.place) (changes e)
  changes_inner = omega (arith, s)

  changes_few : All (λ c. c.by ≤ 1) (changes e)
  changes_few = omega (arith, s)

  share_few : (j : ℕ) → share j e ≤ 4
  share_few j = sum_few (adds j) 1 (changes e) (all_map one (changes e) changes_few)
    where
      one : (c : Change) → c.by ≤ 1 → adds j c ≤ 1
      one c few = by_test (eqb j c.place) (λ t. rw t few) (λ t. rw t zero-le)

put_in_is : (e : Entry) (words : List ℕ) (n : ℕ) → get_or words many_at 0 ≡ n
    → put_in e words ≡ altered words (ring_at + (get_or words oldest_at 0 + n) % window_size) (entry_word e) (changes e)
unfolding put_in counted
put_in_is e words n is = rw is

oldest_out_is : (e : Entry) (words : List ℕ) → word_entry (get_or words (ring_at + get_or words oldest_at 0 % window_size) 0) ≡ e
    → oldest_out words ≡ altered words oldest_at ((get_or words oldest_at 0 % window_size + 1) % window_size) (map opposite (changes e))
unfolding oldest_out counted raised
oldest_out_is e words is = rw (← is)

-- what an entry for another changes: three counts by what both change, and as many entries as before
abbrev exchanges : Entry → Entry → List Change
exchanges e x =
    record { place = compared_at + e.records_compared; by = 1 }
    ∷ record { place = compared_at + x.records_compared; by = 2 ^ 16 - 1 }
    ∷ record { place = side_at; by = e.side_compared + (2 ^ 16 - x.side_compared) }
    ∷ record { place = held_at; by = e.held + (2 ^ 16 - x.held) }
    ∷ []

-- at one place, where a test holds
whole_turn : (t : Bool) (m n d : ℕ) → m + d ≡ n + 2 ^ 16 → cond t m 0 + cond t d 0 ≡ cond t n 0 + 2 ^ 16 * cond t 1 0
whole_turn true m n d e = omega (arith, e)
whole_turn false m n d e = omega arith

exchanged : (e x : Entry) → Small x → (j y : ℕ) → (share j x + y + added j (exchanges e x)) % 2 ^ 16 ≡ (y + share j e) % 2 ^ 16
exchanged e x s j y =
    let t = eqb j (compared_at + x.records_compared) in
    let zero_either : ◌≡◌ {A = ℕ} (cond t 0 0) 0 = by_test t (λ a. rw a) (λ a. rw a) in
    omega (
      arith,
      zero_either,
      whole_turn t 1 0 (2 ^ 16 - 1) (omega arith),
      whole_turn (eqb j side_at) x.side_compared e.side_compared (e.side_compared + (2 ^ 16 - x.side_compared)) (omega (arith, s)),
      whole_turn (eqb j held_at) x.held e.held (e.held + (2 ^ 16 - x.held)) (omega (arith, s)),
    )

put_for_oldest_is : (e x : Entry) (words : List ℕ) (n : ℕ) → get_or words many_at 0 ≡ n
    → word_entry (get_or words (ring_at + get_or words oldest_at 0 % window_size) 0) ≡ x
    → put_for_oldest e words ≡ altered (set words (ring_at + (get_or words oldest_at 0 + n) % window_size) (entry_word e)) oldest_at
    ((get_or words oldest_at 0 % window_size + 1) % window_size) (exchanges e x)
unfolding put_for_oldest raised
put_for_oldest_is e x words n is-n is_x = rw (is-n, ← is_x)

-- ---- an area holds a list of entries
no_entry : Entry
no_entry = record { held = 0; side_compared = 0; records_compared = 0 }

record Holds (words : List ℕ) (l : List Entry) : Type 0 where
  long : length words ≡ window_length
  few : length l ≤ window_size
  small : All Small l
  counts : (j : ℕ) → Inner j → get_or words j 0 ≡ sum (map (share j) l) % 2 ^ 16
  ring : (i : ℕ) → i < length l → get_or words (ring_at + (get_or words oldest_at 0 + i) % window_size) 0 ≡ entry_word (get_or l i no_entry)

-- no count comes near 2^16, so each is the sum of shares; below the counts of records compared the shares are three parts of an entry
module _ {words : List ℕ} {l : List Entry} (h : Holds words l) where
  count : (j : ℕ) → Inner j → get_or words j 0 ≡ sum (map (share j) l)
  count j inner = h.counts j inner ∙ mod-eq_of_lt (omega (arith, sum_few (share j) 4 l (all_map (λ e s. share_few e s j) l h.small), h.few))

  count_low : (j : ℕ) (f : Entry → ℕ) → 0 < j → j < compared_at → ((e : Entry) → added j (drop 1 (changes e)) ≡ f e) → get_or words j 0 ≡ sum (map f l)
  count_low j f some low is =
      count j (omega arith)
      ∙ ap sum (map_cong (share j) f l (all_every (λ e. rw (ne_eqb j (compared_at + e.records_compared) (omega arith), is e) (omega arith)) l))

  many : get_or words many_at 0 ≡ length l
  many = count_low many_at (λ e. 1) (omega arith) (omega arith) (λ e. refl) ∙ sum_ones l

-- ---- it holds nothing when cleared, one more entry when one is put in, and all but the first when the oldest is taken out
cleared : Holds (replicate window_length 0) []
cleared =
    record {
      long = length-replicate {A = ℕ} window_length 0;
      few = omega arith;
      small = tt;
      counts = λ j inner. get_or-replicate window_length j 0 0 (omega arith);
      ring = λ i inside. absurd (omega arith);
    }

ring_apart : (o i k : ℕ) → i < k → k < window_size → (o + i) % window_size ≢ (o + k) % window_size
ring_apart o i k less few e = omega arith

ring_next : (o i : ℕ) → ((o % window_size + 1) % window_size + i) % window_size ≡ (o + suc i) % window_size
ring_next o i = omega arith

one_more : {words : List ℕ} {l : List Entry} (e : Entry) → Small e → length l < window_size → Holds words l → Holds (put_in e words) (l ++ (e ∷ []))
one_more {words} {l} e s room h =
    let o = get_or words oldest_at 0 in
    let n = length l in
    let place : ℕ → ℕ = λ i. ring_at + (o + i) % window_size in
    let a : Alters words (place n) (entry_word e) (changes e) = record { long = h.long; outer = omega arith; inner = changes_inner e s } in
    let same : get_or (altered words (place n) (entry_word e) (changes e)) oldest_at 0 ≡ o = word_kept a oldest_at (omega arith) (omega arith) in
    rw (put_in_is e words n (many h))
    (record {
      long = length_altered a;
      few = omega (arith, length-append l (e ∷ []));
      small = all_append Small l (e ∷ []) h.small (s, tt);
      counts = λ j inner. rw (sum_end (share j) l e) (count_changed a j _ inner (h.counts j inner));
      ring = λ i inside. rw same
          (by_test (ltb i n)
          (λ t. let less : i < n = ltb-true i n t in
          rw (get_or-append l (e ∷ []) no_entry i less) (word_kept a (place i) (omega arith) (omega (arith, ring_apart o i n less room)) ∙ h.ring i less))
          (λ t. let end : i ≡ n = omega (arith, ltb-false i n t, length-append l (e ∷ [])) in
          rw (end, get_or-append_seam l e [] no_entry) (word_put a)));
    })

one_less : {words : List ℕ} (l : List Entry) → 0 < length l → Holds words l → Holds (oldest_out words) (drop 1 l)
one_less [] some h = absurd (omega arith)
one_less {words} (e ∷ l) some h =
    let o = get_or words oldest_at 0 in
    let next = (o % window_size + 1) % window_size in
    let s : Small e = h.small.0 in
    let a : Alters words oldest_at next (map opposite (changes e)) = record { long = h.long; outer = omega arith; inner = changes_inner e s } in
    rw (oldest_out_is e words (ap word_entry (rw add-zero at (h.ring 0 some)) ∙ word_back e s))
    (record {
      long = length_altered a;
      few = omega (arith, h.few);
      small = h.small.1;
      counts = λ j inner. count_changed a j _ inner (h.counts j inner) ∙ back_again j _ (changes e) (changes_few e s);
      ring = λ i inside. rw (word_put a)
          (word_kept a (ring_at + (next + i) % window_size) (omega arith) (omega arith) ∙ rw (ring_next o i) (h.ring (suc i) (omega arith)));
    })

one_for_one : {words : List ℕ} (l : List Entry) (e : Entry) → Small e → window_size ≤ length l → Holds words l
    → Holds (put_for_oldest e words) (drop 1 l ++ (e ∷ []))
one_for_one [] e s full h = absurd (omega arith)
one_for_one {words} (x ∷ l) e s full h =
    let o = get_or words oldest_at 0 in
    let n = suc (length l) in
    let whole : n ≡ window_size = omega (arith, h.few) in
    let next = (o % window_size + 1) % window_size in
    let place = ring_at + (o + n) % window_size in
    let put = set words place (entry_word e) in
    let sx : Small x = h.small.0 in
    let a : Alters put oldest_at next (exchanges e x) =
    record { long = length-set words place (entry_word e) ∙ h.long; outer = omega arith; inner = omega (arith, s, sx) } in
    rw (put_for_oldest_is e x words n (many h) (ap word_entry (rw add-zero at (h.ring 0 (omega arith))) ∙ word_back x sx))
    (record {
      long = length_altered a;
      few = omega (arith, length-append l (e ∷ []));
      small = all_append Small l (e ∷ []) h.small.1 (s, tt);
      counts = λ j inner. rw (sum_end (share j) l e)
          (count_changed a j _ inner (get_or-set_other words place j _ 0 (omega arith) ∙ h.counts j inner) ∙ exchanged e x sx j _);
      ring = λ i inside. rw (word_put a)
          (word_kept a (ring_at + (next + i) % window_size) (omega arith) (omega arith)
          ∙ by_test (ltb i (length l))
          (λ t. let less : i < length l = ltb-true i (length l) t in
          rw (get_or-append l (e ∷ []) no_entry i less, ring_next o i)
          (get_or-set_other words place _ _ 0 (omega (arith, ring_apart o 0 (suc i) (omega arith) (omega arith))) ∙ h.ring (suc i) (omega arith)))
          (λ t. let end : i ≡ length l = omega (arith, ltb-false i (length l) t, length-append l (e ∷ [])) in
          rw (end, get_or-append_seam l e [] no_entry, ring_next o (length l)) (get_or-set_same words place _ 0 (omega (arith, h.long)))));
    })

-- ---- so each call keeps it
latest_is : (l : List Entry) → length l ≤ window_size + 1 → latest l ≡ drop (length l - window_size) l
unfolding latest
latest_is l few =
    by_test (ltb window_size (length l))
    (λ t. let one : length l - window_size ≡ 1 = omega (arith, ltb-true window_size (length l) t) in rw (t, one))
    (λ t. let none : length l - window_size ≡ 0 = omega (arith, ltb-false window_size (length l) t) in rw (t, none))

entered : {words : List ℕ} (l : List Entry) (e : Entry) → Small e → Holds words l
    → Holds (cond (leb window_size (get_or words many_at 0)) (put_for_oldest e words) (put_in e words)) (latest (l ++ (e ∷ [])))
entered {words} l e s h =
    let n : get_or words many_at 0 ≡ length l = many h in
    let few : length l ≤ window_size = h.few in
    let longer : length (l ++ (e ∷ [])) ≡ length l + 1 = length-append l (e ∷ []) in
    rw (latest_is (l ++ (e ∷ [])) (omega arith))
    (by_test (leb window_size (get_or words many_at 0))
    (λ t. let full : window_size ≤ length l = omega (arith, leb-true window_size (get_or words many_at 0) t) in
    let over : length (l ++ (e ∷ [])) - window_size ≡ 1 = omega arith in
    rw (t, over, drop-append-le 1 l (e ∷ []) (omega arith)) (one_for_one l e s full h))
    (λ t. let room : length l < window_size = omega (arith, leb-false window_size (get_or words many_at 0) t) in
    let over : length (l ++ (e ∷ [])) - window_size ≡ 0 = omega arith in
    rw (t, over) (one_more e s room h)))

removed : {words : List ℕ} (l : List Entry) → Holds words l → Holds (cond (eqb (get_or words many_at 0) 0) words (oldest_out words)) (drop 1 l)
removed {words} [] h = rw (eq-eqb (get_or words many_at 0) 0 (many h)) h
removed {words} (e ∷ l) h = rw (ne_eqb (get_or words many_at 0) 0 (omega (arith, many h))) (one_less (e ∷ l) (omega arith) h)

after_call : (c : WindowCall) {words : List ℕ} {l : List Entry} → Holds words l → Holds (words_after c words) (window_after c l)
unfolding words_after window_after
after_call clear_window h = cleared
after_call (enter x) {l = l} h = by_test (accepted x.number) (λ t. rw t (entered l (entry_of x) (entry_small x) h)) (λ t. rw t h)
after_call remove_oldest {l = l} h = removed l h

after_all : (calls : List WindowCall) {words : List ℕ} {l : List Entry} → Holds words l
    → Holds (after_calls words_after calls words) (after_calls window_after calls l)
after_all [] h = h
after_all (c ∷ calls) h = after_all calls (after_call c h)

holds : (words : List ℕ) (calls : List WindowCall) → Holds (after_calls words_after calls (words_after clear_window words)) (after_calls window_after calls [])
unfolding words_after
holds words calls = after_all calls cleared

pub window_few : WindowFew
window_few calls = (holds [] calls).few

-- ---- the ring is the list
by_places : (f : ℕ → Entry) (a : ℕ) (l : List Entry) → ((i : ℕ) → i < length l → f (a + i) ≡ get_or l i no_entry) → map f (upto a (length l)) ≡ l
by_places f a [] is = refl
by_places f a (e ∷ l) is =
    rw (rw add-zero at (is 0 (omega arith)), by_places f (suc a) l (λ i inside. rw (suc-add, ← add-suc) (is (suc i) (omega arith))))

pub window_ring : WindowRing
unfolding ring_entries
window_ring words calls =
    let h = holds words calls in
    let l = after_calls window_after calls [] in
    rw (many h) (by_places _ 0 l (λ i inside. rw (zero-add, h.ring i inside) (word_back _ (all_at Small l i no_entry inside h.small))))

-- ---- of the numbers below n a test passes those of a list: the greatest that passes is the greatest of the list
has_few : (l : List ℕ) (c : ℕ) → has c l ≡ true → c ≤ greatest l
has_few [] c e = absurd (false≢true e)
has_few (x ∷ xs) c e = by_test (eqb c x) (λ t. omega (arith, eqb-true c x t)) (λ t. omega (arith, has_few xs c (rw t at e)))

module _ (p : ℕ → Bool) where
  kept_few : (b : ℕ) (l : List ℕ) → ((x : ℕ) → p x ≡ true → x ≤ b) → greatest (filter p l) ≤ b
  kept_few b [] few = zero-le
  kept_few b (x ∷ xs) few = by_test (p x) (λ t. rw t (omega (arith, few x t, kept_few b xs few))) (λ t. rw t (kept_few b xs few))

  kept_reaches : (x a n : ℕ) → p x ≡ true → a ≤ x → x < a + n → x ≤ greatest (filter p (upto a n))
  kept_reaches x a zero pass above below = absurd (omega arith)
  kept_reaches x a (suc n) pass above below =
      by_test (eqb a x) (λ t. rw (eqb-true a x t, pass) (omega arith))
      (λ t. let rest = kept_reaches x (suc a) n pass (omega (arith, eqb-false a x t)) (omega arith) in
      by_test (p a) (λ u. rw u (omega arith)) (λ u. rw u rest))

  all_reach : (n : ℕ) (l : List ℕ) → All (λ x. x < n) l → All (λ x. p x ≡ true) l → greatest l ≤ greatest (filter p (upto 0 n))
  all_reach n [] below pass = zero-le
  all_reach n (x ∷ xs) below pass =
      omega (arith, kept_reaches x 0 n pass.0 zero-le (omega (arith, below.0)), all_reach n xs below.1 pass.1)

highest : (p : ℕ → Bool) (n : ℕ) (l : List ℕ) → ((c : ℕ) → c < n → p c ≡ has c l) → All (λ x. x < n) l → greatest (filter p (upto 0 n)) ≡ greatest l
highest p n l test below =
    rw (filter_cong p (λ c. has c l) (upto 0 n) (all_upto 0 n (λ c few. test c (omega arith))))
    (omega (arith, kept_few (λ c. has c l) (greatest l) (upto 0 n) (has_few l), all_reach (λ c. has c l) n l below (all_has l)))

-- ---- the counts are a fresh count: that of c records compared is not zero where an entry has compared c
abbrev compared : List Entry → List ℕ
compared l = map (λ e. e.records_compared) l

share_compared : (c : ℕ) (e : Entry) → share (compared_at + c) e ≡ cond (eqb c e.records_compared) 1 0
share_compared c e =
    let j = compared_at + c in
    rw (ne_eqb j side_at (omega arith), ne_eqb j held_at (omega arith), ne_eqb j many_at (omega arith))
    (rw (eqb_same j (compared_at + e.records_compared) c e.records_compared (omega arith) (omega arith)) (omega arith))

some_compared : (c : ℕ) (l : List Entry) → not (eqb (sum (map (share (compared_at + c)) l)) 0) ≡ has c (compared l)
some_compared c [] = refl
some_compared c (e ∷ l) =
    rw (share_compared c e)
    (by_test (eqb c e.records_compared) (λ t. rw (t, ne_eqb (1 + sum (map (share (compared_at + c)) l)) 0 (omega arith)))
    (λ t. rw (t, zero-add) (some_compared c l)))

module _ {words : List ℕ} {l : List Entry} (h : Holds words l) where
  compared_few : All (λ c. c < most_compared + 1) (compared l)
  compared_few = all_of_map _ _ l (all_map (λ e s. omega (arith, s.records_compared)) l h.small)

  count_compared : (c : ℕ) → c < most_compared + 1 → not (eqb (get_or words (compared_at + c) 0) 0) ≡ has c (compared l)
  count_compared c few = rw (count h (compared_at + c) (omega arith)) (some_compared c l)

  counts_fresh : counts_told words ≡ fresh_count l
  unfolding counts_told fresh_count
  counts_fresh i =
      record {
        held = count_low h held_at (λ e. e.held) (omega arith) (omega arith) (omega arith) i;
        side_compared = count_low h side_at (λ e. e.side_compared) (omega arith) (omega arith) (omega arith) i;
        greatest_compared = highest _ (most_compared + 1) (compared l) count_compared compared_few i;
      }

pub window_counts : WindowCountsFresh
window_counts words calls = counts_fresh (holds words calls)

-- ---- after searches alone the window is the last of the entries
abbrev last : List Entry → List Entry
last l = drop (length l - window_size) l

last_entered : (l : List Entry) (e : Entry) → latest (last l ++ (e ∷ [])) ≡ last (l ++ (e ∷ []))
last_entered l e =
    let k = length l - window_size in
    let both = l ++ (e ∷ []) in
    let longer : length both ≡ length l + 1 = length-append l (e ∷ []) in
    let left : length (drop k both) ≡ length both - k = length-drop k both in
    let over : k + (length (drop k both) - window_size) ≡ length both - window_size = omega arith in
    rw (← (drop-append-le k l (e ∷ []) (omega arith)), latest_is (drop k both) (omega arith), drop-drop, over)

searched : (answers : List Answer) (l : List Entry)
    → after_calls window_after (map enter answers) (last l) ≡ last (l ++ map entry_of (filter (λ x. accepted x.number) answers))
unfolding window_after
searched [] l = rw append-nil
searched (x ∷ answers) l =
    let on = after_calls window_after (map enter answers) in
    either on (λ xs. last (l ++ map entry_of xs)) (accepted x.number)
    (λ t. ap on (last_entered l (entry_of x)) ∙ searched answers (l ++ (entry_of x ∷ [])) ∙ rw append_snoc)
    (λ t. searched answers l)

pub window_latest : WindowLatest
window_latest answers = searched answers []
