-- What the doors of search and tally answer on every input.
use Rattle.std.specs.Prelude.{◌≡◌, Bool, true, cond, ◌&&◌, List, [], ◌∷◌, ℕ, ◌<◌, ◌^◌, eqb, length, get_or}
use Rattle.theory.specs.Lists.{has}
use Rattle.theory.specs.Settings.{Settings, card_of}
use Rattle.theory.specs.Lookup.{Answer, bare, accepted, RecordPlace, record_place, driver_number}
use Rattle.theory.specs.Ledger.{search, tally, Totals, no_totals, Reply, answered, handed, totalled}
use Rattle.theory.specs.Calls.{perform}
use Rattle.theory.specs.Window.{three_counts, told_answer, enter, words_after}
use Rattle.hash.specs.Table.{table_lengths, TableFor}
use Rattle.lookup.specs.Answers.{lookup_areas, search_with}
use Rattle.tally.specs.Tallies.{read_areas}
use Rattle.card.specs.Doors.{Filled, refused, filled, unless}

-- what the search call gives back
abbrev pub answer_in : Reply → Answer
answer_in (answered x) = x
answer_in (handed x) = bare 0
answer_in (totalled x) = bare 0

-- the number of a search's answer, with other numbers of it in a lent area: 1; 2 also when that area is not of so many; then the search's own refusal; else
-- the numbers
unfoldable pub given_with : Answer → List ℕ → List ℕ → Filled
given_with x numbers area =
    cond (eqb x.number 1) (refused (driver_number x) area)
    (unless (eqb (length area) (length numbers)) (refused (driver_number (bare 2)) area)
    (unless (accepted x.number) (refused (driver_number x) area) (record { number = driver_number x; area = numbers })))

-- the same by whether that area is of so many: the answer that is told, and whether the numbers are written
abbrev pub told_of : Answer → Bool → Answer
told_of x right = cond (eqb x.number 1) x (unless right (bare 2) x)

abbrev pub is_given : Answer → Bool → Bool
is_given x right = right && accepted x.number

-- the place of its record, which is 0 and 0 for an absent flow
abbrev pub place_given : Answer → RecordPlace → List ℕ → Filled
place_given x lies place = given_with x (lies.area ∷ lies.start ∷ []) place

-- the search call's answer, with where the record of the key lies
unfoldable pub search_place_of : Settings → List ℕ → List ℕ → List ℕ → List ℕ → List ℕ → Filled
search_place_of t clipped buckets side key place =
    place_given (answer_in (perform t 0 (search key) (lookup_areas clipped buckets side)).reply) (record_place (card_of t) clipped buckets side key) place

-- buckets read, records compared, and 1 where the side store was compared
abbrev pub counts_given : Answer → List ℕ → Filled
counts_given x counts = given_with x (three_counts x) counts

-- the search call's answer, with its counts
unfoldable pub search_counts_of : Settings → List ℕ → List ℕ → List ℕ → List ℕ → List ℕ → Filled
search_counts_of t clipped buckets side key counts =
    counts_given (answer_in (perform t 0 (search key) (lookup_areas clipped buckets side)).reply) counts

-- the same with a lent table of the hash, whatever it holds
unfoldable pub search_counts_with : List ℕ → Settings → List ℕ → List ℕ → List ℕ → List ℕ → List ℕ → Filled
search_counts_with table t clipped buckets side key counts = counts_given (search_with table t clipped buckets side key) counts

-- ---- what is claimed of the two. With a right table of its length the second gives what the first does: counts_right
abbrev pub CountsRight : Type 0
CountsRight =
    (table : List ℕ) (t : Settings) (clipped buckets side key counts : List ℕ)
    → has (length table) (table_lengths (card_of t).width) ≡ true
    → TableFor (card_of t).width table
    → ((i : ℕ) → get_or key i 0 < 256)
    → search_counts_with table t clipped buckets side key counts ≡ search_counts_of t clipped buckets side key counts

-- and what such a door gives for an answer enters a window as that answer, a refused one as nothing, whatever stood in the counts' area: search_enters
abbrev pub SearchEnters : Type 0
SearchEnters =
    (x : Answer) (counts words : List ℕ)
    → x.class < 2 ^ 32
    → length counts ≡ 3
    → (let given = counts_given x counts in words_after (enter (told_answer given.number given.area)) words ≡ words_after (enter x) words)

-- what the tally call gives back
abbrev pub totals_in : Reply → Totals
totals_in (answered x) = no_totals 0
totals_in (handed x) = no_totals 0
totals_in (totalled x) = x

-- 1; 2 also when the lent area for the four numbers is not of 4; then the call's own refusal; else the four numbers
unfoldable pub tally_of : Settings → List ℕ → List ℕ → List ℕ → List ℕ → List ℕ → Filled
tally_of t ledger clipped buckets side totals =
    let x = totals_in (perform t 0 tally (read_areas ledger clipped buckets side)).reply in
    cond (eqb x.number 1) (refused 1 totals)
    (unless (eqb (length totals) 4) (refused 2 totals)
    (unless (eqb x.number 0) (refused x.number totals) (filled (x.in_buckets ∷ x.in_side ∷ x.marked_255 ∷ x.fill ∷ []))))
