-- Document 02, U5: the window over the latest 1,024 accepted searches, the area that holds it, and what is claimed of both. Proofs: WindowLaws.
use Rattle.std.specs.Prelude.{◌≡◌, cond, not, List, [], ◌∷◌, ◌++◌, map, ℕ, ◌+◌, ◌-◌, ◌*◌, ◌/◌, ◌%◌, ◌^◌, ◌≤◌, ◌<◌, min, max, eqb, leb, ltb, length, drop, get_or, set, replicate}
use Rattle.theory.specs.Lists.{filter, upto, sum}
use Rattle.theory.specs.Lookup.{Answer, accepted, driver_number}

-- ---- the plain window: a list of entries, the oldest first
-- an entry, of an accepted search: 1 where it was held; 1 where it compared the side store; records compared
pub record Entry : Type 0 where
  pub held : ℕ
  pub side_compared : ℕ
  pub records_compared : ℕ

-- no search compares more records (compares_few)
abbrev pub most_compared : ℕ
most_compared = 64

-- the entry of an answer; an answer that no search gives, with more than 64 records compared, enters as one with 64
unfoldable pub entry_of : Answer → Entry
entry_of x =
    record {
      held = cond (eqb x.number 0) 1 0;
      side_compared = cond (eqb x.side_compared 0) 0 1;
      records_compared = min x.records_compared most_compared;
    }

-- "over the latest 1,024 accepted searches"
abbrev pub window_size : ℕ
window_size = 1024

-- "the oldest dropped for good"
unfoldable pub latest : List Entry → List Entry
latest l = cond (ltb window_size (length l)) (drop 1 l) l

-- what may come: the window is cleared; a search has answered; the oldest entry is removed
pub data WindowCall : Type 0 where
  clear_window : WindowCall
  enter : Answer → WindowCall
  remove_oldest : WindowCall

-- a refused search does not enter; "a removal from it alters nothing" where the window is empty
unfoldable pub window_after : WindowCall → List Entry → List Entry
window_after clear_window l = []
window_after (enter x) l = cond (accepted x.number) (latest (l ++ (entry_of x ∷ []))) l
window_after remove_oldest l = drop 1 l

-- the greatest of the numbers, zero for none
abbrev pub greatest : List ℕ → ℕ
greatest [] = 0
greatest (x ∷ xs) = max x (greatest xs)

-- "held answers, searches that compared the side store .., greatest records compared"
pub record WindowCounts : Type 0 where
  pub held : ℕ
  pub side_compared : ℕ
  pub greatest_compared : ℕ

-- "a fresh count over what the window holds"
unfoldable pub fresh_count : List Entry → WindowCounts
fresh_count l =
    record {
      held = sum (map (λ (e : Entry). e.held) l);
      side_compared = sum (map (λ (e : Entry). e.side_compared) l);
      greatest_compared = greatest (map (λ (e : Entry). e.records_compared) l);
    }

-- an answer as the search doors give it, the driver's number and three counts, and back: answer_told
abbrev pub three_counts : Answer → List ℕ
three_counts x = x.buckets_read ∷ x.records_compared ∷ x.side_compared ∷ []

unfoldable pub told_answer : ℕ → List ℕ → Answer
told_answer found counts =
    record {
      number = found / 2 ^ 32;
      class = found % 2 ^ 32;
      buckets_read = get_or counts 0 0;
      records_compared = get_or counts 1 0;
      side_compared = get_or counts 2 0;
    }

abbrev pub AnswerTold : Type 0
AnswerTold = (x : Answer) → x.class < 2 ^ 32 → told_answer (driver_number x) (three_counts x) ≡ x

-- ---- the window's area, of 16-bit words: the place of the oldest entry in the ring; how many entries there are; how many of them are held; how many compared
-- the side store; how many compared 0, 1, .. 64 records; then the ring's 1,024 places
abbrev pub oldest_at : ℕ
oldest_at = 0

abbrev pub many_at : ℕ
many_at = 1

abbrev pub held_at : ℕ
held_at = 2

abbrev pub side_at : ℕ
side_at = 3

abbrev pub compared_at : ℕ
compared_at = 4

abbrev pub ring_at : ℕ
ring_at = 69

abbrev pub window_length : ℕ
window_length = 1093

-- an entry as a word: held, and twice side compared, and four times records compared; and any word as an entry
unfoldable pub entry_word : Entry → ℕ
entry_word e = e.held + 2 * e.side_compared + 4 * e.records_compared

unfoldable pub word_entry : ℕ → Entry
word_entry x = record { held = x % 2; side_compared = x / 2 % 2; records_compared = min (x / 4) most_compared }

-- a count with so much added, modulo 2^16, as a word holds it; n taken off is 2^16 - n added
unfoldable pub raised : ℕ → ℕ → List ℕ → List ℕ
raised i n words = set words i ((get_or words i 0 + n) % 2 ^ 16)

-- the counts with so much added: to all entries and to those that compared so many records, to held ones, to those that compared the side store
unfoldable pub counted : ℕ → ℕ → ℕ → ℕ → List ℕ → List ℕ
counted one held side compared words = raised (compared_at + compared) one (raised side_at side (raised held_at held (raised many_at one words)))

-- the oldest entry taken out, on any words; the ring's word stays
unfoldable pub oldest_out : List ℕ → List ℕ
oldest_out words =
    let place = get_or words oldest_at 0 % window_size in
    let e = word_entry (get_or words (ring_at + place) 0) in
    counted (2 ^ 16 - 1) (2 ^ 16 - e.held) (2 ^ 16 - e.side_compared) e.records_compared (set words oldest_at ((place + 1) % window_size))

-- an entry put in at the end, on any words
unfoldable pub put_in : Entry → List ℕ → List ℕ
put_in e words =
    let place = (get_or words oldest_at 0 + get_or words many_at 0) % window_size in
    counted 1 e.held e.side_compared e.records_compared (set words (ring_at + place) (entry_word e))

-- an entry put in at the end of a full ring, on any words: the oldest entry leaves, and there are as many as before
unfoldable pub put_for_oldest : Entry → List ℕ → List ℕ
put_for_oldest e words =
    let oldest = get_or words oldest_at 0 % window_size in
    let left = word_entry (get_or words (ring_at + oldest) 0) in
    let place = (get_or words oldest_at 0 + get_or words many_at 0) % window_size in
    raised (compared_at + e.records_compared) 1
    (raised (compared_at + left.records_compared) (2 ^ 16 - 1)
    (raised side_at (e.side_compared + (2 ^ 16 - left.side_compared))
    (raised held_at (e.held + (2 ^ 16 - left.held))
    (set (set words (ring_at + place) (entry_word e)) oldest_at ((oldest + 1) % window_size)))))

-- what a call leaves in an area of the right length, whatever that holds
unfoldable pub words_after : WindowCall → List ℕ → List ℕ
words_after clear_window words = replicate window_length 0
words_after (enter x) words =
    cond (accepted x.number) (cond (leb window_size (get_or words many_at 0)) (put_for_oldest (entry_of x) words) (put_in (entry_of x) words)) words
words_after remove_oldest words = cond (eqb (get_or words many_at 0) 0) words (oldest_out words)

-- the three counts as the area tells them: the greatest is the highest whose count is not zero
unfoldable pub counts_told : List ℕ → WindowCounts
counts_told words =
    record {
      held = get_or words held_at 0;
      side_compared = get_or words side_at 0;
      greatest_compared = greatest (filter (λ c. not (eqb (get_or words (compared_at + c) 0) 0)) (upto 0 (most_compared + 1)));
    }

-- the entries as the ring holds them, from the oldest on
unfoldable pub ring_entries : List ℕ → List Entry
ring_entries words =
    map (λ i. word_entry (get_or words (ring_at + (get_or words oldest_at 0 + i) % window_size) 0)) (upto 0 (get_or words many_at 0))

-- ---- what is claimed, after any list of calls, one after the other
abbrev pub after_calls : {X : Type 0} → (WindowCall → X → X) → List WindowCall → X → X
after_calls step [] x = x
after_calls step (c ∷ cs) x = after_calls step cs (step c x)

-- THE CLAIM, window_counts: from a cleared area, whatever it held before, the counts told are a fresh count over what the plain window holds
abbrev pub WindowCountsFresh : Type 0
WindowCountsFresh =
    (words : List ℕ) (calls : List WindowCall)
    → counts_told (after_calls words_after calls (words_after clear_window words)) ≡ fresh_count (after_calls window_after calls [])

-- and the ring holds the plain window's list: window_ring
abbrev pub WindowRing : Type 0
WindowRing =
    (words : List ℕ) (calls : List WindowCall)
    → ring_entries (after_calls words_after calls (words_after clear_window words)) ≡ after_calls window_after calls []

-- of 1,024 entries at most: window_few
abbrev pub WindowFew : Type 0
WindowFew = (calls : List WindowCall) → length (after_calls window_after calls []) ≤ window_size

-- "the latest 1,024 accepted searches": window_latest. After searches alone, the window holds the entries of the last 1,024 of the accepted ones
abbrev pub WindowLatest : Type 0
WindowLatest =
    (answers : List Answer)
    → (let entries = map entry_of (filter (λ x. accepted x.number) answers) in
    after_calls window_after (map enter answers) [] ≡ drop (length entries - window_size) entries)
