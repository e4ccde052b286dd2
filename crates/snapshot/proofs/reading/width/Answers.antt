-- 13 in a file of six settings, else the seventh
use Rattle.std.proofs.Common.{arith}
use Rattle.snapshot.proofs.FileLaws.{width_of_six, width_of_seven}
use Rattle.snapshot.proofs.reading.width.Goals as goal

pub returns-then-head-eq-SETTINGS_WITHOUT_WIDTH : goal.returns-then-head-eq-SETTINGS_WITHOUT_WIDTH
returns-then-head-eq-SETTINGS_WITHOUT_WIDTH c = width_of_six c.args.file.now c.requires.settings c.if-head-eq-SETTINGS_WITHOUT_WIDTH.true

pub setting-requires-clause-there : goal.setting-requires-clause-there
setting-requires-clause-there c = omega arith

pub returns : goal.returns
returns c = width_of_seven c.args.file.now c.requires.settings c.if-head-eq-SETTINGS_WITHOUT_WIDTH.false c.setting.ensures
