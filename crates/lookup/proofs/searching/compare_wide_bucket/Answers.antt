-- The part that is lent on is the bucket after its mark.
use Rattle.std.proofs.Common.{arith}
use Rattle.theory.specs.Lookup.{answer_at}
use Rattle.settings.specs.Checked.{paper}
use Rattle.settings.proofs.Laws.{bounds}
use Rattle.lookup.proofs.PlaceLaws.{bucket_lent, bucket_scannable, all_scannable}
use Rattle.lookup.proofs.searching.compare_wide_bucket.Goals as goal

pub overflow_sub-end : goal.overflow_sub-end
overflow_sub-end c = let b = bounds (paper c.args.s) c.requires.ok in omega (arith, c.bucket_size.ensures)

pub compare-requires : goal.compare-requires
compare-requires c =
    rw (bucket_lent (paper c.args.s) c.args.from c.args.buckets.now c.bucket_size.ensures) (all_scannable (bucket_scannable c.requires))

pub returns : goal.returns
unfolding answer_at
returns c =
    rw (c.compare.ensures, c.requires.wide, bucket_lent (paper c.args.s) c.args.from c.args.buckets.now c.bucket_size.ensures)
