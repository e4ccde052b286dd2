-- The number at the place that the counters say.
use Rattle.std.proofs.Common.{ap, ◌∙◌}
use Rattle.theory.specs.Lookup as plain
use Rattle.settings.specs.Checked.{card}
use Rattle.lookup.proofs.numbers.chosen_number.Goals as goal

pub place_by-place-requires : goal.place_by-place-requires
place_by-place-requires c = (c.requires.checked, c.requires.fits)

pub place_number-requires : goal.place_number-requires
place_number-requires c = record { checked = c.requires.checked; wide = c.requires.wide; inside = c.place_by-place.ensures.looks.inside }

pub returns : goal.returns
returns c =
    c.place_number.ensures
    ∙ ap (λ (x : plain.Place). plain.driver_number (plain.answer_at (card c.args.s) c.args.key.now x)) c.place_by-place.ensures.looks.is
