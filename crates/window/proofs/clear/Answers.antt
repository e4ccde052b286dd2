-- An area of the right length is zeros.
use borrow.Author.Tests.{ne_eqb}
use Rattle.theory.specs.Window.{window_length}
use Rattle.window.specs.Windows.{clear_of}
use Rattle.window.proofs.WindowAreaLaws.{cleared}
use Rattle.window.proofs.clear.Goals as goal

pub returns-then-words-ne-LENGTH : goal.returns-then-words-ne-LENGTH
unfolding clear_of
returns-then-words-ne-LENGTH c = rw (ne_eqb _ window_length c.if-words-ne-LENGTH.true)

pub returns : goal.returns
returns c = cleared _ c.if-words-ne-LENGTH.false (c.fill.ensures.after (λ y h. h))
