-- A search that compared the side store is one of which that count is not zero.
use Rattle.std.proofs.Common.{◌≡◌, ℕ, Bool, true, false, cond, not, refl}
use Rattle.theory.specs.Window.{entry_of, told_answer}
use Rattle.window.proofs.entry.Entry.of_search.Goals as goal

other_way : (t : Bool) → cond {A = ℕ} (not t) 1 0 ≡ cond t 0 1
other_way true = refl
other_way false = refl

pub returns : goal.returns
unfolding entry_of told_answer
returns c = rw (other_way, c.min.ensures)
