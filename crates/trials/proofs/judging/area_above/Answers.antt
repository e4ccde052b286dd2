-- `trials::judging::area_above` meets its contract: areas have few numbers, so their bytes fit.
use Rattle.std.proofs.Common.{arith}
use Rattle.settings.specs.Checked.{paper}
use Rattle.settings.proofs.Laws.{bounds}
use Rattle.trials.proofs.judging.area_above.Goals as goal

pub overflow_mul-areas : goal.overflow_mul-areas
overflow_mul-areas c = omega (arith, c.true_length.ensures, (bounds (paper c.args.s) c.requires).true_most)

pub overflow_mul-areas-2 : goal.overflow_mul-areas-2
overflow_mul-areas-2 c = omega (arith, c.work_length.ensures, (bounds (paper c.args.s) c.requires).work_most)
