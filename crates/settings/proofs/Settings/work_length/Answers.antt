use Rattle.std.proofs.Common.{arith}
use Rattle.theory.specs.Settings.{work_length}
use Rattle.settings.specs.Checked.{paper}
use Rattle.settings.proofs.Laws.{bounds}
use Rattle.settings.proofs.Settings.work_length.Goals as goal

pub overflow_mul-result : goal.overflow_mul-result
overflow_mul-result c = rw c.buckets.ensures (omega (arith, (bounds (paper c.args.self) c.requires).buckets_most))

pub returns : goal.returns
unfolding work_length
returns c = rw c.buckets.ensures
