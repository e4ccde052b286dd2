-- a record has at most 41 bytes, and there are at most 4,096, so no sum wraps
use Rattle.std.proofs.Common.{arith}
use native.Mathlib.Nat.{mul-le-mul}
use Rattle.settings.specs.Checked.{paper}
use Rattle.settings.proofs.Laws.{bounds}
use Rattle.settings.proofs.Settings.with_records.Goals as goal

pub overflow_mul-result : goal.overflow_mul-result
overflow_mul-result c = rw c.record_size.ensures (omega (arith, mul-le-mul (bounds (paper c.args.self) c.requires.0).record_most c.requires.2))

pub overflow_add-result : goal.overflow_add-result
overflow_add-result c = rw c.record_size.ensures (omega (arith, mul-le-mul (bounds (paper c.args.self) c.requires.0).record_most c.requires.2))
