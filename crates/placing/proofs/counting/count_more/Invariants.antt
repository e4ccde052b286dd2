-- After i records each count is what it was and the true count of these.
use Rattle.std.proofs.Common.{◌+◌, length}
use Rattle.settings.specs.Checked.{card}
use Rattle.placing.proofs.PartLaws.{Rest}
use Rattle.placing.proofs.RecordCountLaws.{Counted}
use Rattle.placing.proofs.counting.count_more.Given as goal

abbrev pub invariant-loop-record : goal.invariant-loop-record
invariant-loop-record l =
    Rest l.part ((card l.s).width + 4) (length l.yielded) l.record-iterator × Counted (card l.s) l.fn.counts l.part (length l.yielded) l.counts
