-- Its divisions are the definition's.
use Rattle.std.proofs.Common.{◌≡◌, ℕ, cond, eqb, ◌%◌, arith}
use Rattle.std.proofs.lemmas.Bool.Decides.{nat_tests}
use Rattle.theory.specs.Window.{word_entry}
use Rattle.window.proofs.entry.EntryFromU16.from.Goals as goal

bit : (x : ℕ) → cond (eqb (x % 2) 1) 1 0 ≡ x % 2
bit x = grind (arith, nat_tests)

pub returns : goal.returns
unfolding word_entry
returns c = rw (bit, bit, c.min.ensures, c.from.ensures)
