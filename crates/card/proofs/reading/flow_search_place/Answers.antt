-- What the search says, given with its place.
use Rattle.std.proofs.Common.{◌∙◌, arith}
use Rattle.card.proofs.ReadingLaws.{number_few, given_is, placed}
use Rattle.card.proofs.reading.flow_search_place.Goals as goal

pub give-requires : goal.give-requires
give-requires c = (omega arith, number_few _ _ _ _ _ _ c.locate-found.ensures)

pub returns : goal.returns
returns c =
    rw (c.give.ensures.told, c.give.ensures.given, c.place_of.ensures) (given_is _ _ _ ∙ placed _ _ _ _ _ _ _ c.locate-found.ensures)
