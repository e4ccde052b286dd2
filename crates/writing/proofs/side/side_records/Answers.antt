-- `writing::side::side_records` meets its contract: of no records none belongs to the side.
use Rattle.settings.specs.Checked.{card}
use Rattle.writing.proofs.SideLaws.{none_sent}
use Rattle.writing.proofs.side.side_records.Goals as goal

pub loop-i-init : goal.loop-i-init
loop-i-init c = (none_sent (card c.args.s) c.args.placement c.args.area.now, c.requires.before)
