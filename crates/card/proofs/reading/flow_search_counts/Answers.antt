-- What the search says, given with its counts.
use Rattle.std.proofs.Common.{◌∙◌, arith}
use Rattle.card.proofs.ReadingLaws.{number_few, given_is, counted}
use Rattle.card.proofs.reading.flow_search_counts.Goals as goal

pub give-requires : goal.give-requires
give-requires c = (omega arith, number_few _ _ _ _ _ _ c.locate.ensures)

pub returns : goal.returns
returns c = rw (c.give.ensures.told, c.give.ensures.given, c.counts_of.ensures) (given_is _ _ _ ∙ counted _ _ _ _ _ _ _ c.locate.ensures)
