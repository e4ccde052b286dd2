-- a key has at most 37 bytes, and a class has 4
use Rattle.std.proofs.Common.{arith, refl}
use Rattle.theory.specs.Settings.{record_size, card_of}
use Rattle.theory.proofs.SettingsLaws.{ranges}
use Rattle.settings.specs.Checked.{paper}
use Rattle.settings.proofs.Settings.record_size.Goals as goal

pub overflow_add-result : goal.overflow_add-result
overflow_add-result c = omega (arith, (ranges (paper c.args.self) c.requires).width_high)

pub returns : goal.returns
unfolding record_size card_of
returns c = refl
