-- the product is the length, which is at most 675,840
use Rattle.std.proofs.Common.{arith}
use Rattle.theory.specs.Settings.{buckets_length}
use Rattle.settings.specs.Checked.{paper}
use Rattle.settings.proofs.Laws.{bounds}
use Rattle.settings.proofs.Settings.buckets_length.Goals as goal

pub overflow_mul-result : goal.overflow_mul-result
unfolding buckets_length
overflow_mul-result c = rw (c.buckets.ensures, c.bucket_size.ensures) (omega (arith, (bounds (paper c.args.self) c.requires).buckets_length_most))

pub returns : goal.returns
unfolding buckets_length
returns c = rw (c.buckets.ensures, c.bucket_size.ensures)
