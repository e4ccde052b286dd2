-- p is at most 12, so 1 shifted by p is 2^p
use Rattle.std.proofs.Common.{arith}
use native.Mathlib.Nat.{one-mul, mod-eq_of_lt}
use lib.Pow.{pow-lt}
use Rattle.theory.specs.Settings.{card_of}
use Rattle.theory.proofs.SettingsLaws.{ranges}
use Rattle.settings.specs.Checked.{paper}
use Rattle.settings.proofs.Settings.buckets.Goals as goal

pub overflow_shl-result : goal.overflow_shl-result
overflow_shl-result c = let limits = ranges (paper c.args.self) c.requires in omega arith

pub returns : goal.returns
unfolding card_of
returns c = let limits = ranges (paper c.args.self) c.requires in rw one-mul (mod-eq_of_lt (pow-lt {j = 64} (omega arith)))
