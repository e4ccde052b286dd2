-- The oldest entry of a window that has one is taken out.
use borrow.Author.Tests.{ne_eqb}
use Rattle.theory.specs.Window.{window_length}
use Rattle.window.specs.Windows.{remove_of}
use Rattle.window.proofs.WindowAreaLaws.{removed, none_removed}
use Rattle.window.proofs.remove.Goals as goal

pub returns-then-words-ne-LENGTH : goal.returns-then-words-ne-LENGTH
unfolding remove_of
returns-then-words-ne-LENGTH c = rw (ne_eqb _ window_length c.if-words-ne-LENGTH.true)

pub returns-then-words-ne0 : goal.returns-then-words-ne0
returns-then-words-ne0 c = removed _ c.if-words-ne-LENGTH.false c.if-words-ne0.true c.take_oldest_out.ensures

pub returns-else-words-ne0 : goal.returns-else-words-ne0
returns-else-words-ne0 c = none_removed _ c.if-words-ne-LENGTH.false c.if-words-ne0.false
