-- `lookup::places::bucket_place` meets its contract: by the tests of the mark.
use Rattle.std.proofs.Common.{◌≡◌, sym, ◌∙◌, ◌+◌, ◌*◌, ◌<◌, ◌≤◌, length, ap, arith, List, ℕ}
use Rattle.theory.specs.Settings as plain
use Rattle.theory.specs.Settings.{card_of, bucket_size}
use Rattle.settings.specs.Checked.{paper}
use Rattle.settings.proofs.Laws.{bounds, bucket_within}
use Rattle.lookup.specs.Places.{CheckedPlaces}
use Rattle.lookup.proofs.PlaceLaws.{MarkAt, sent_on, bucket_invalid, bucket_among}
use Rattle.lookup.proofs.places.bucket_place.Goals as goal

-- ---- the size of a bucket is known
module _ (t : plain.Settings) (buckets side : List ℕ) (bucket size : ℕ) (given : CheckedPlaces t buckets side) (lt : bucket < (card_of t).buckets)
    (is : size ≡ bucket_size (card_of t)) where
  from : bucket * size ≡ bucket * bucket_size (card_of t)
  from = ap (λ (z : ℕ). bucket * z) is

  inside : bucket * size + bucket_size (card_of t) ≤ length buckets
  inside = omega (arith, from, bucket_within t bucket lt, given.buckets_size)

  some : 18 ≤ bucket_size (card_of t)
  some = (bounds t given.ok).bucket_size_least

  few : length buckets ≤ 675840
  few = omega (arith, (bounds t given.ok).buckets_length_most, given.buckets_size)

  mark : MarkAt t buckets bucket (bucket * size)
  mark = record { ok = given.ok; start = from }

pub overflow_mul-at : goal.overflow_mul-at
overflow_mul-at c =
    let t = paper c.args.s in
    omega (
      arith,
      inside t c.args.buckets.now c.args.side.now c.args.bucket c.bucket_size.result c.requires.0 c.requires.1 c.bucket_size.ensures,
      few t c.args.buckets.now c.args.side.now c.args.bucket c.bucket_size.result c.requires.0 c.requires.1 c.bucket_size.ensures,
    )

pub bounds-buckets-at : goal.bounds-buckets-at
bounds-buckets-at c =
    let t = paper c.args.s in
    omega (
      arith,
      inside t c.args.buckets.now c.args.side.now c.args.bucket c.bucket_size.result c.requires.0 c.requires.1 c.bucket_size.ensures,
      some t c.args.buckets.now c.args.side.now c.args.bucket c.bucket_size.result c.requires.0 c.requires.1 c.bucket_size.ensures,
    )

pub overflow_add-result : goal.overflow_add-result
overflow_add-result c =
    let t = paper c.args.s in
    omega (
      arith,
      inside t c.args.buckets.now c.args.side.now c.args.bucket c.bucket_size.result c.requires.0 c.requires.1 c.bucket_size.ensures,
      some t c.args.buckets.now c.args.side.now c.args.bucket c.bucket_size.result c.requires.0 c.requires.1 c.bucket_size.ensures,
      few t c.args.buckets.now c.args.side.now c.args.bucket c.bucket_size.result c.requires.0 c.requires.1 c.bucket_size.ensures,
    )

pub returns-then-mark-eq255 : goal.returns-then-mark-eq255
returns-then-mark-eq255 c =
    let m = mark (paper c.args.s) c.args.buckets.now c.args.side.now c.args.bucket c.bucket_size.result c.requires.0 c.requires.1 c.bucket_size.ensures in
    sent_on m (sym c.from-mark.ensures ∙ c.if-mark-eq255.true) (c.side_place.ensures c.args.buckets.now c.args.bucket)

pub returns-then-s-mark : goal.returns-then-s-mark
returns-then-s-mark c =
    let m = mark (paper c.args.s) c.args.buckets.now c.args.side.now c.args.bucket c.bucket_size.result c.requires.0 c.requires.1 c.bucket_size.ensures in
    bucket_invalid m (λ e. c.if-mark-eq255.false (c.from-mark.ensures ∙ e)) (rw c.from-mark.ensures at c.if-s-mark.true)

pub returns : goal.returns
returns c =
    let t = paper c.args.s in
    let m = mark t c.args.buckets.now c.args.side.now c.args.bucket c.bucket_size.result c.requires.0 c.requires.1 c.bucket_size.ensures in
    rw c.from-mark.ensures
    (bucket_among m (λ e. c.if-mark-eq255.false (c.from-mark.ensures ∙ e)) (rw c.from-mark.ensures at c.if-s-mark.false)
    (omega (
      arith,
      inside t c.args.buckets.now c.args.side.now c.args.bucket c.bucket_size.result c.requires.0 c.requires.1 c.bucket_size.ensures,
      some t c.args.buckets.now c.args.side.now c.args.bucket c.bucket_size.result c.requires.0 c.requires.1 c.bucket_size.ensures,
      c.requires.0.buckets_size,
    )))
