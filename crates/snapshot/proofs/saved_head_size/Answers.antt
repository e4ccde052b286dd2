use Rattle.std.proofs.Common.{arith}
use Rattle.theory.proofs.SnapshotLaws.{first_count_most}
use Rattle.settings.specs.Checked.{paper}
use Rattle.snapshot.proofs.saved_head_size.Goals as goal

pub head_size-requires : goal.head_size-requires
head_size-requires c = omega (arith, first_count_most (paper c.args.s))
