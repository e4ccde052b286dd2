-- The number at the place where the search looks.
use Rattle.std.proofs.Common.{ap, ◌∙◌}
use Rattle.theory.specs.Lookup.{driver_number}
use Rattle.settings.specs.Checked.{paper}
use Rattle.lookup.proofs.PlaceLaws.{places_of, key_counters_fit, place_by_is, search_is}
use Rattle.lookup.proofs.numbers.number_at.Goals as goal

pub chosen_number-requires : goal.chosen_number-requires
chosen_number-requires c =
    rw c.key_counters.ensures
    (record {
      checked = places_of c.requires.checked;
      fits = key_counters_fit (paper c.args.s) c.args.h c.args.areas.clipped.now c.requires.checked.ok;
      wide = c.requires.wide;
    })

pub returns : goal.returns
returns c =
    let t = paper c.args.s in
    let clipped = c.args.areas.clipped.now in
    let buckets = c.args.areas.buckets.now in
    let side = c.args.areas.side.now in
    let key = c.args.key.now in
    c.chosen_number.ensures
    ∙ rw c.key_counters.ensures (ap driver_number (search_is t c.args.h clipped buckets side key _ (place_by_is t c.args.h clipped c.requires.checked.ok key buckets side)))
