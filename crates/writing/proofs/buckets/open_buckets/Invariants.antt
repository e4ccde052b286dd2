-- The first b parts are blank buckets.
use Rattle.std.proofs.Common.{◌≡◌, ◌*◌, take}
use Rattle.settings.specs.Checked.{card}
use Rattle.writing.specs.Buckets.{crowded_by, blank_buckets}
use Rattle.writing.proofs.buckets.open_buckets.Given as goal

abbrev pub invariant-loop-b : goal.invariant-loop-b
invariant-loop-b l = take (l.b * l.size) l.buckets ≡ blank_buckets (card l.s) (crowded_by (card l.s) l.placement.choosers.now) l.b
