-- The calls of the window on every input, and an entry as the code holds it.
use Rattle.std.specs.Prelude.{Bool, cond, ◌&&◌, List, [], ◌∷◌, ℕ, ◌^◌, ◌≤◌, eqb, length}
use Rattle.theory.specs.Window as plain
use Rattle.theory.specs.Window.{WindowCounts, enter, clear_window, remove_oldest, window_length, words_after, counts_told, told_answer}
use Rattle.window.specs.declared.entry.Entry.{Entry}

-- an entry as the definition has it
abbrev pub entry_in : Entry → plain.Entry
entry_in e = record { held = cond e.held 1 0; side_compared = cond e.side_compared 1 0; records_compared = e.records_compared }

-- numbers that one entry adds to the counts, or takes off
pub record Countable (one held side compared : ℕ) : Type 0 where
  pub one_most : one ≤ 2 ^ 16
  pub held_most : held ≤ 2 ^ 16
  pub side_most : side ≤ 2 ^ 16
  pub compared_most : compared ≤ plain.most_compared

-- ---- the number answered, and the area that the call writes as it leaves it
pub record Written : Type 0 where
  pub number : ℕ
  pub area : List ℕ

-- 2 where a length is wrong, and then the area is as it was; else 0
abbrev pub if_right : Bool → List ℕ → List ℕ → Written
if_right right before after = cond right (record { number = 0; area = after }) (record { number = 2; area = before })

unfoldable pub clear_of : List ℕ → Written
clear_of words = if_right (eqb (length words) window_length) words (words_after clear_window words)

unfoldable pub enter_of : List ℕ → ℕ → List ℕ → Written
enter_of words found counts =
    if_right (eqb (length words) window_length && eqb (length counts) 3) words (words_after (enter (told_answer found counts)) words)

unfoldable pub remove_of : List ℕ → Written
remove_of words = if_right (eqb (length words) window_length) words (words_after remove_oldest words)

-- held, side store compared, greatest records compared
abbrev pub three_told : WindowCounts → List ℕ
three_told x = x.held ∷ x.side_compared ∷ x.greatest_compared ∷ []

unfoldable pub counts_of : List ℕ → List ℕ → Written
counts_of words counts = if_right (eqb (length words) window_length && eqb (length counts) 3) counts (three_told (counts_told words))
