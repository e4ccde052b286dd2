-- `writing::buckets::place_records` meets its contract: buckets with none of the records are blank.
use mathlib.Core.Path.{◌∙◌}
use Rattle.writing.proofs.BucketLaws.{growing_none}
use Rattle.writing.proofs.buckets.place_records.Goals as goal

pub loop-i-init : goal.loop-i-init
loop-i-init c = c.requires.blank ∙ growing_none _ _ _ _ c.args.area.now
