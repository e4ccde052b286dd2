use Rattle.std.proofs.Common.{◌≡◌, ◌++◌, ◌*◌, take, drop}
use Rattle.theory.specs.Lists.{flat}
use Rattle.theory.specs.Records.{to_bytes}
use Rattle.snapshot.proofs.saving.write_numbers.Given as goal

abbrev pub invariant-loop-i : goal.invariant-loop-i
invariant-loop-i l = l.to ≡ flat (to_bytes 2) (take l.i l.numbers) ++ drop (2 * l.i) l.initial.to
