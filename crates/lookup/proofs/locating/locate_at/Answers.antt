-- `lookup::locating::locate_at` meets its contract: the answer at the place where the search looks, and the byte of the record there.
use Rattle.std.proofs.Common.{◌≡◌, refl, ◌∙◌, subst, true, false, List, ℕ, length, arith}
use Rattle.theory.specs.Settings as plain
use Rattle.theory.specs.Settings.{card_of}
use Rattle.theory.specs.Lookup as plain_lookup
use Rattle.theory.specs.Lookup.{counter, goes_to_bucket, place, search_areas}
use Rattle.theory.specs.Placing.{chosen}
use Rattle.settings.specs.Checked.{paper}
use Rattle.settings.proofs.Laws.{bounds}
use Rattle.lookup.specs.declared.places.Place.{Place}
use Rattle.lookup.specs.declared.locating.Area.TheVariants as area
use Rattle.lookup.specs.declared.counters.KeyCounters.{KeyCounters}
use Rattle.std.specs.Prelude.{Option}
use Rattle.lookup.specs.Choosing.{card_at, key_counters_at, bucket_of}
use Rattle.lookup.specs.Places.{CheckedLookup, Goes, LooksAt, place_by, goes_by, place_of, ByPlace}
use Rattle.lookup.proofs.PlaceLaws.{places_of, key_counters_fit, looks_by, in_bucket, search_is}
use Rattle.lookup.proofs.LocateLaws.{one_compared, none_held, lies_among, lies_nowhere}
use Rattle.lookup.proofs.locating.locate_at.Goals as goal

-- ---- where the search looks is found
module _ (t : plain.Settings) (h : ℕ) (clipped buckets side key : List ℕ) (given : CheckedLookup t clipped buckets side)
    (wide : length key ≡ (card_of t).width) (choice : Option KeyCounters) (read : choice ≡ key_counters_at t clipped h) (r : Place)
    (by : LooksAt t buckets side (place_by (card_of t) choice buckets side) (bucket_of choice) (goes_by (card_of t) choice buckets) r) where
  looks : LooksAt t buckets side (place (card_at t h) clipped buckets side key) (chosen (card_at t h) (counter clipped) key)
      (goes_to_bucket (card_at t h) clipped buckets key) r
  looks = looks_by t h clipped given.ok key buckets side (rw read at by)

  at_place : ByPlace t r buckets side key
  at_place = record { checked = places_of given; wide = wide; inside = looks.looks.inside }

  whole : plain_lookup.answer_at (card_of t) key (place_of (card_of t) buckets side r) ≡ search_areas (card_at t h) clipped buckets side key
  whole = search_is t h clipped buckets side key _ looks.looks.is

  goes : (x : Place) → r ≡ x → Goes (card_of t) (chosen (card_at t h) (counter clipped) key) (goes_to_bucket (card_at t h) clipped buckets key) x
  goes x e = subst (Goes (card_of t) (chosen (card_at t h) (counter clipped) key) (goes_to_bucket (card_at t h) clipped buckets key)) e looks.goes

pub place_by-looked-requires : goal.place_by-looked-requires
place_by-looked-requires c =
    rw c.key_counters.ensures (places_of c.requires.checked, key_counters_fit (paper c.args.s) c.args.h c.args.areas.clipped.now c.requires.checked.ok)

pub search_place-answer-requires : goal.search_place-answer-requires
search_place-answer-requires c =
    at_place (paper c.args.s) c.args.h _ _ _ c.args.key.now c.requires.checked c.requires.wide _ c.key_counters.ensures _ c.place_by-looked.ensures

pub record_of-place-requires : goal.record_of-place-requires
record_of-place-requires c =
    let t = paper c.args.s in
    let at = at_place t c.args.h _ _ _ c.args.key.now c.requires.checked c.requires.wide _ c.key_counters.ensures _ c.place_by-looked.ensures in
    let inside = in_bucket at c.in-Bucket.is in
    let b = bounds t c.requires.checked.ok in
    record {
      counted = one_compared (card_of t) c.args.key.now _ _ c.search_place-answer.ensures;
      near = omega (arith, inside.inside, inside.buckets_size, b.buckets_length_most);
      small = omega (arith, c.record_size-size.ensures, b.record_most);
    }

pub record_of-place-requires-in-Side : goal.record_of-place-requires-in-Side
record_of-place-requires-in-Side c =
    let t = paper c.args.s in
    let b = bounds t c.requires.checked.ok in
    record {
      counted = one_compared (card_of t) c.args.key.now _ _ c.search_place-answer.ensures;
      near = omega arith;
      small = omega (arith, c.record_size-size.ensures, b.record_most);
    }

pub returns-in-Bucket : goal.returns-in-Bucket
returns-in-Bucket c =
    let t = paper c.args.s in
    let key = c.args.key.now in
    let is = c.search_place-answer.ensures
    ∙ whole t c.args.h _ _ _ key c.requires.checked c.requires.wide _ c.key_counters.ensures _ c.place_by-looked.ensures in
    let to = goes t c.args.h _ _ _ key c.requires.checked c.requires.wide _ c.key_counters.ensures _ c.place_by-looked.ensures _ c.in-Bucket.is in
    record {
      answers = is;
      lies = lies_among t c.args.h _ _ _ key _ is true to.0 area.Buckets refl _ to.1 _ c.record_size-size.ensures c.record_of-place.ensures;
    }

pub returns-in-Side : goal.returns-in-Side
returns-in-Side c =
    let t = paper c.args.s in
    let key = c.args.key.now in
    let is = c.search_place-answer.ensures
    ∙ whole t c.args.h _ _ _ key c.requires.checked c.requires.wide _ c.key_counters.ensures _ c.place_by-looked.ensures in
    let to = goes t c.args.h _ _ _ key c.requires.checked c.requires.wide _ c.key_counters.ensures _ c.place_by-looked.ensures _ c.in-Side.is in
    record {
      answers = is;
      lies = lies_among t c.args.h _ _ _ key _ is false to area.Side refl 2 refl _ c.record_size-size.ensures c.record_of-place-in-Side.ensures;
    }

pub returns-in-Invalid : goal.returns-in-Invalid
returns-in-Invalid c =
    let t = paper c.args.s in
    let key = c.args.key.now in
    let is = c.search_place-answer.ensures
    ∙ whole t c.args.h _ _ _ key c.requires.checked c.requires.wide _ c.key_counters.ensures _ c.place_by-looked.ensures in
    record {
      answers = is;
      lies = lies_nowhere t c.args.h _ _ _ key _ is (none_held (card_of t) key c.args.areas.buckets.now c.args.areas.side.now _ _ c.search_place-answer.ensures c.in-Invalid.is);
    }
