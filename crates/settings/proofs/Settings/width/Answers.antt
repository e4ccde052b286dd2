use Rattle.std.proofs.Common.{refl}
use Rattle.theory.specs.Settings.{card_of}
use Rattle.settings.proofs.Settings.width.Goals as goal

pub returns : goal.returns
unfolding card_of
returns c = refl
