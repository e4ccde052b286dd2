-- The part that is lent on is the bucket after its mark, and the first 13 bytes of a key of 13 are the key.
use Rattle.std.proofs.Common.{◌≡◌, sym, ◌∙◌, List, ℕ, length, take, arith}
use lib.Seq.{take_all}
use Rattle.theory.specs.Settings.{ipv4_width}
use Rattle.theory.specs.Lookup.{answer_at}
use Rattle.settings.specs.declared.Settings.{Settings}
use Rattle.settings.specs.Checked.{paper}
use Rattle.settings.proofs.Laws.{width_is, bounds}
use Rattle.lookup.specs.Places.{InBucket}
use Rattle.lookup.proofs.PlaceLaws.{bucket_lent, bucket_scannable}
use Rattle.lookup.proofs.searching.compare_ipv4_bucket.Goals as goal

-- ---- a key of an IPv4 flow's width
module _ (s : Settings) (buckets key : List ℕ) (from n : ℕ) (given : InBucket (paper s) buckets key from n) (ipv4 : s.width ≡ ipv4_width) where
  narrow : length key ≡ ipv4_width
  narrow = given.wide ∙ width_is (paper s) ∙ ipv4

  whole : take ipv4_width key ≡ key
  whole = take_all ipv4_width key (omega (arith, narrow))

pub overflow_sub-end : goal.overflow_sub-end
overflow_sub-end c = let b = bounds (paper c.args.s) c.requires.bucket.ok in omega (arith, c.bucket_size.ensures)

pub slice_bounds-compare_all-end : goal.slice_bounds-compare_all-end
slice_bounds-compare_all-end c =
    rw (whole c.args.s c.args.buckets.now c.args.key.now c.args.from c.args.n c.requires.bucket c.requires.narrow)
    (sym (narrow c.args.s c.args.buckets.now c.args.key.now c.args.from c.args.n c.requires.bucket c.requires.narrow))

pub compare_all-requires : goal.compare_all-requires
compare_all-requires c =
    rw (
      whole c.args.s c.args.buckets.now c.args.key.now c.args.from c.args.n c.requires.bucket c.requires.narrow,
      bucket_lent (paper c.args.s) c.args.from c.args.buckets.now c.bucket_size.ensures,
    ) (bucket_scannable c.requires.bucket)

pub returns : goal.returns
unfolding answer_at
returns c =
    rw (
      c.compare_all.ensures,
      whole c.args.s c.args.buckets.now c.args.key.now c.args.from c.args.n c.requires.bucket c.requires.narrow,
      c.requires.bucket.wide,
      bucket_lent (paper c.args.s) c.args.from c.args.buckets.now c.bucket_size.ensures,
    )
