-- each setting is there, and is the paper's field by field
use Rattle.std.proofs.Common.{arith, ◌∙◌}
use Rattle.snapshot.proofs.FileLaws.{settings_read}
use Rattle.snapshot.proofs.reading.read_settings.Goals as goal

pub setting-requires-clause-there : goal.setting-requires-clause-there
setting-requires-clause-there c = omega arith

pub setting-requires-2-clause-there : goal.setting-requires-2-clause-there
setting-requires-2-clause-there c = omega arith

pub setting-requires-3-clause-there : goal.setting-requires-3-clause-there
setting-requires-3-clause-there c = omega arith

pub setting-requires-4-clause-there : goal.setting-requires-4-clause-there
setting-requires-4-clause-there c = omega arith

pub setting-requires-5-clause-there : goal.setting-requires-5-clause-there
setting-requires-5-clause-there c = omega arith

pub setting-requires-6-clause-there : goal.setting-requires-6-clause-there
setting-requires-6-clause-there c = omega arith

pub returns : goal.returns
returns c =
    c.new.ensures
    ∙ settings_read c.args.file.now c.setting.ensures c.setting-2.ensures c.setting-3.ensures c.setting-4.ensures c.setting-5.ensures c.setting-6.ensures
    c.width.ensures
