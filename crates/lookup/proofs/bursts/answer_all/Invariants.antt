-- The first i numbers are those of their keys, by what the counters said of them.
use Rattle.std.proofs.Common.{get_or}
use Rattle.settings.specs.Checked.{paper}
use Rattle.lookup.specs.Bursts.{burst_key, number_by}
use Rattle.lookup.proofs.BurstLaws.{Passed}
use Rattle.lookup.proofs.bursts.answer_all.Given as goal

abbrev pub invariant-loop-i : goal.invariant-loop-i
invariant-loop-i l =
    Passed (λ j. number_by (paper l.s) l.areas.buckets.now l.areas.side.now (burst_key l.width l.keys j) (get_or l.initial.answers j 0))
    l.initial.answers l.i l.answers
