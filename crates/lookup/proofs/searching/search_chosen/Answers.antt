-- `lookup::searching::search_chosen` meets its contract: the answer at the place that the counters say.
use Rattle.std.proofs.Common.{ap, ◌∙◌}
use Rattle.theory.specs.Lookup as plain
use Rattle.settings.specs.Checked.{card}
use Rattle.lookup.proofs.searching.search_chosen.Goals as goal

pub place_by-place-requires : goal.place_by-place-requires
place_by-place-requires c = (c.requires.checked, c.requires.fits)

pub search_place-requires : goal.search_place-requires
search_place-requires c = record { checked = c.requires.checked; wide = c.requires.wide; inside = c.place_by-place.ensures.looks.inside }

pub returns : goal.returns
returns c = c.search_place.ensures ∙ ap (λ (x : plain.Place). plain.answer_at (card c.args.s) c.args.key.now x) c.place_by-place.ensures.looks.is
