use Rattle.std.proofs.Common.{arith}
use Rattle.theory.specs.Settings.{side_length, card_of}
use Rattle.theory.proofs.SettingsLaws.{ranges}
use Rattle.settings.specs.Checked.{paper}
use Rattle.settings.proofs.Settings.side_length.Goals as goal

pub with_records-requires : goal.with_records-requires
with_records-requires c = let limits = ranges (paper c.args.self) c.requires in (c.requires, omega arith, omega arith)

pub returns : goal.returns
unfolding side_length card_of
returns c = c.with_records.ensures
