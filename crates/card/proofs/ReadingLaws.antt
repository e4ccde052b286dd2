-- Laws of the doors of search and tally: each answer is `perform`'s.
use mathlib.Core.Path.{◌≡◌, sym, ap, ◌∙◌}
use mathlib.Core.Bool.{true, false, not, cond, and-false, false≢true}
use mathlib.Core.List.{List, [], ◌∷◌}
use Prim.Native.Nat.{ℕ, ◌^◌, ◌≤◌, ◌<◌}
use native.Mathlib.Omega.{arith}
use lib.Dec.{eqb}
use borrow.Author.Tests.{eqb-true, eq-eqb, ne_eqb}
use lib.ListN.{length}
use Rattle.std.specs.Prelude.{Result, Ok, Err}
use Rattle.theory.specs.Lists.{all}
use Rattle.theory.specs.Settings.{Settings, allowed, card_of}
use Rattle.theory.specs.Layout.{Areas}
use Rattle.theory.specs.Ledger.{search, tally, Totals, Step, totalled, counted_totals}
use Rattle.theory.specs.Calls.{reply_number, ledger_invalid, lookup_invalid, tally_areas, call, lent_lengths, perform}
use Rattle.theory.specs.Lookup.{Answer, accepted, RecordPlace, driver_number}
use Rattle.theory.specs.Window.{told_answer, enter, words_after}
use Rattle.theory.proofs.ListLaws.{by_test}
use Rattle.theory.proofs.Demands.{search_number_few}
use Rattle.theory.proofs.WindowLaws.{answer_told}
use Rattle.memory.specs.declared.refusals.Refusal.{Refusal}
use Rattle.memory.specs.Refusals.{number_of}
use Rattle.memory.proofs.RefusalLaws.{refused_number}
use Rattle.lookup.specs.declared.locating.Located.{Located}
use Rattle.lookup.specs.Answers.{answer_of, lookup_areas, search_with}
use Rattle.lookup.specs.Locating.{lies_at, LocatedCall}
use Rattle.tally.specs.declared.Totals as code
use Rattle.tally.specs.Tallies.{totals_of, read_areas}
use Rattle.lookup.proofs.LocateLaws.{place_accepted}
use Rattle.lookup.proofs.WithTableLaws.{with_performs}
use Rattle.card.specs.Doors.{Filled, refused, filled}
use Rattle.card.specs.Reading.{answer_in, given_with, told_of, is_given, place_given, search_place_of, counts_given, search_counts_of, search_counts_with}
use Rattle.card.specs.Reading.{CountsRight, SearchEnters, totals_in, tally_of}

-- ---- search with the place of the record, and with the counts
module _ (t : Settings) (clipped buckets side key area : List ℕ) (r : Located) (call : LocatedCall t clipped buckets side key r) where
  performed : answer_in (perform t 0 (search key) (lookup_areas clipped buckets side)).reply ≡ answer_of r.answer
  performed = ap (λ (s : Step Areas). answer_in s.reply) (sym call.answers)

  pub placed : place_given (answer_of r.answer) (lies_at r) area ≡ search_place_of t clipped buckets side key area
  unfolding given_with search_place_of
  placed =
      rw performed
      (by_test (accepted r.answer.number)
      (λ ok. ap (λ (x : RecordPlace). place_given (answer_of r.answer) x area) (place_accepted t clipped buckets side key r call ok))
      (λ away. rw away))

  pub counted : counts_given (answer_of r.answer) area ≡ search_counts_of t clipped buckets side key area
  unfolding search_counts_of
  counted = rw performed

-- the number is at most 100
pub number_few : (t : Settings) (clipped buckets side key : List ℕ) (r : Located) → LocatedCall t clipped buckets side key r → r.answer.number ≤ 100
number_few t clipped buckets side key r call =
    rw (ap (λ (s : Step Areas). reply_number s.reply) call.answers) (search_number_few t 0 key (lookup_areas clipped buckets side))

pub given_few : {x y : Answer} → y.number ≤ 100 → x ≡ y → x.number ≤ 100
given_few few e = rw e few

pub counted_with : (table : List ℕ) (t : Settings) (clipped buckets side key counts : List ℕ) {x : Answer} → x ≡ search_with table t clipped buckets side key
    → counts_given x counts ≡ search_counts_with table t clipped buckets side key counts
unfolding search_counts_with
counted_with table t clipped buckets side key counts e = ap (λ (x : Answer). counts_given x counts) e

-- ---- numbers of an answer given in a lent area: what is told and whether they are written
pub given_is : (x : Answer) (numbers area : List ℕ) → (let right = eqb (length area) (length numbers) in
    record { number = driver_number (told_of x right); area = cond (is_given x right) numbers area } ≡ given_with x numbers area)
unfolding given_with
given_is x numbers area =
    by_test (eqb x.number 1) (λ e. rw (eqb-true x.number 1 e, and-false))
    (λ e. rw e (by_test (eqb (length area) (length numbers)) (λ l. rw l (by_test (accepted x.number) (λ ok. rw ok) (λ away. rw away))) (λ l. rw l)))

-- ---- with a right table the counts are the search call's
pub counts_right : CountsRight
unfolding search_counts_of search_counts_with
counts_right table t clipped buckets side key counts long right bytes =
    ap (λ (s : Step Areas). counts_given (answer_in s.reply) counts) (with_performs table t clipped buckets side key long right bytes)

-- ---- what a door with counts gives enters a window as its answer; a refused search enters nothing
unentered : (x : Answer) (words : List ℕ) → accepted x.number ≡ false → words_after (enter x) words ≡ words
unfolding words_after
unentered x words away = rw away

module _ (x : Answer) (counts words : List ℕ) (small : x.class < 2 ^ 32) (three : length counts ≡ 3) where
  abbrev entered : Filled → List ℕ
  entered given = words_after (enter (told_answer given.number given.area)) words

  number_told : (l : List ℕ) → (told_answer (driver_number x) l).number ≡ x.number
  unfolding told_answer driver_number
  number_told l = omega arith

  accepted_enters : accepted x.number ≡ true → entered (counts_given x counts) ≡ words_after (enter x) words
  unfolding given_with
  accepted_enters ok =
      rw (ne_eqb x.number 1 (λ e. false≢true (rw e at ok)), eq-eqb (length counts) 3 three, ok)
      (ap (λ (y : Answer). words_after (enter y) words) (answer_told x small))

  told_alone : accepted x.number ≡ false → entered (refused (driver_number x) counts) ≡ words_after (enter x) words
  told_alone away =
      unentered (told_answer (driver_number x) counts) words (rw (number_told counts) away) ∙ sym (unentered x words away)

  refused_enters : accepted x.number ≡ false → entered (counts_given x counts) ≡ words_after (enter x) words
  unfolding given_with
  refused_enters away =
      rw (eq-eqb (length counts) 3 three, away)
      (by_test (eqb x.number 1) (λ e. rw e (told_alone away)) (λ e. rw e (told_alone away)))

pub search_enters : SearchEnters
search_enters x counts words small three =
    by_test (accepted x.number) (accepted_enters x counts words small three) (refused_enters x counts words small three)

-- ---- tally
module _ (t : Settings) (ledger clipped buckets side : List ℕ) where
  abbrev read : Areas
  read = read_areas ledger clipped buckets side

  abbrev asked : Totals
  asked = totals_in (perform t 0 tally read).reply

  -- 1 is answered of settings out of range, and of nothing else
  tally_first : eqb asked.number 1 ≡ not (allowed t)
  unfolding perform call tally_areas counted_totals
  tally_first =
      by_test (allowed t)
      (λ e. rw e
      (by_test (all (λ x. x) (lent_lengths (card_of t) 0 tally read))
      (λ l. rw l
      (by_test (ledger_invalid (card_of t) ledger) (λ i. rw i)
      (λ i. rw i (by_test (lookup_invalid (card_of t) read) (λ j. rw j) (λ j. rw j)))))
      (λ l. rw l)))
      (λ e. rw e)

  module _ (totals : List ℕ) where
    pub tally_1 : allowed t ≡ false → refused 1 totals ≡ tally_of t ledger clipped buckets side totals
    unfolding tally_of
    tally_1 e = rw (tally_first, e)

    module _ (e : allowed t ≡ true) where
      pub tally_2 : (length totals ≡ 4 → ⊥) → refused 2 totals ≡ tally_of t ledger clipped buckets side totals
      unfolding tally_of
      tally_2 wrong = rw (tally_first, e, ne_eqb (length totals) 4 wrong)

      module _ (four : length totals ≡ 4) (r : Result code.Totals Refusal)
          (told : ◌≡◌ {A = Step Areas} (record { reply = totalled (totals_of r); state = read }) (perform t 0 tally read)) where
        is : asked ≡ totals_of r
        is = ap (λ (x : Step Areas). totals_in x.reply) (sym told)

        pub tally_refused : (x : Refusal) → r ≡ Err x → refused (number_of x) totals ≡ tally_of t ledger clipped buckets side totals
        unfolding tally_of
        tally_refused x q = rw (tally_first, e, eq-eqb (length totals) 4 four, is, q, ne_eqb (number_of x) 0 (refused_number x))

        pub tallied : (x : code.Totals) → r ≡ Ok x
            → filled (x.in_buckets ∷ x.in_side ∷ x.marked_255 ∷ x.fill ∷ []) ≡ tally_of t ledger clipped buckets side totals
        unfolding tally_of
        tallied x q = rw (tally_first, e, eq-eqb (length totals) 4 four, is, q)

-- the refusals, for `grind`
pub ruleset tally_refusals = (tally_1, tally_2, tally_refused)
