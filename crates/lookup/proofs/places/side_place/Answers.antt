-- `lookup::places::side_place` meets its contract: by the side count.
use Rattle.std.proofs.Common.{arith}
use Rattle.settings.specs.Checked.{paper}
use Rattle.settings.proofs.Laws.{bounds}
use Rattle.lookup.proofs.PlaceLaws.{side_invalid, side_among}
use Rattle.lookup.proofs.places.side_place.Goals as goal

pub count_at-records-requires : goal.count_at-records-requires
count_at-records-requires c = omega (arith, c.requires.side_size, (bounds (paper c.args.s) c.requires.ok).side_least)

pub returns-then-s-records : goal.returns-then-s-records
returns-then-s-records c = λ buckets b. side_invalid c.args.read (omega (arith, c.count_at-records.ensures.0))

pub returns : goal.returns
returns c = λ buckets b. side_among c.count_at-records.result c.args.read c.count_at-records.ensures.0 c.if-s-records.false c.requires.once
