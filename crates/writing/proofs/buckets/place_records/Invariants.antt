-- The first i records are placed.
use Rattle.std.proofs.Common.{◌≡◌}
use Rattle.settings.specs.Checked.{card}
use Rattle.writing.specs.Buckets.{placed}
use Rattle.writing.proofs.buckets.place_records.Given as goal

abbrev pub invariant-loop-i : goal.invariant-loop-i
invariant-loop-i l = l.buckets ≡ placed (card l.s) l.placement l.i l.area
