-- The sum is the definition's.
use Rattle.theory.specs.Window.{entry_word}
use Rattle.window.proofs.WindowAreaLaws.{flag_is}
use Rattle.window.proofs.entry.U16FromEntry.from.Goals as goal

pub returns : goal.returns
unfolding entry_word
returns c = let e = c.args.e in rw (flag_is e.held c.from.ensures, flag_is e.side_compared c.from-2.ensures)
