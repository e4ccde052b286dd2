-- `writing::buckets::write_buckets` meets its contract: blank buckets with every record placed are the buckets of the layout.
use mathlib.Core.Path.{◌∙◌}
use Rattle.writing.proofs.BucketLaws.{placed_all}
use Rattle.writing.proofs.buckets.write_buckets.Goals as goal

pub returns : goal.returns
returns c = c.place_records.ensures ∙ placed_all _ _ c.requires.laying.placed
