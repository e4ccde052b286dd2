-- The two counts that the area has and the greatest number compared are stored.
use Rattle.window.specs.Windows.{counts_of}
use Rattle.window.proofs.WindowAreaLaws.{not_right, told}
use Rattle.window.proofs.counts.Goals as goal

pub returns-then-words-ne-LENGTH : goal.returns-then-words-ne-LENGTH
unfolding counts_of
returns-then-words-ne-LENGTH c = rw (not_right _ _ c.then-words-ne-LENGTH.either)

pub returns : goal.returns
returns c =
    rw (c.from.ensures, c.from-2.ensures)
    (told (record { long = c.if-words-ne-LENGTH.false; three = c.if-counts-ne3.false }) c.greatest_compared.ensures)
