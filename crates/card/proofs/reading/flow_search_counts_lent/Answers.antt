-- What the search says, given with its counts.
use Rattle.std.proofs.Common.{◌∙◌, arith}
use Rattle.lookup.proofs.WithTableLaws.{with_few}
use Rattle.card.proofs.ReadingLaws.{given_is, counted_with, given_few}
use Rattle.card.proofs.reading.flow_search_counts_lent.Goals as goal

pub give-requires : goal.give-requires
give-requires c = (omega arith, given_few (with_few _ _ _ _ _ _) c.search_with_table-answer.ensures)

pub returns : goal.returns
returns c =
    rw (c.give.ensures.told, c.give.ensures.given, c.counts_of.ensures)
    (given_is _ _ _ ∙ counted_with _ _ _ _ _ _ _ c.search_with_table-answer.ensures)
