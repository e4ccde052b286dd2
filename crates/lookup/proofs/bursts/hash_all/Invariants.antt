-- The first i numbers are those of their keys.
use Rattle.hash.specs.Table.{H_by}
use Rattle.lookup.specs.Bursts.{burst_key}
use Rattle.lookup.proofs.BurstLaws.{Passed}
use Rattle.lookup.proofs.bursts.hash_all.Given as goal

abbrev pub invariant-loop-i : goal.invariant-loop-i
invariant-loop-i l = Passed (λ j. H_by l.table (burst_key l.width l.keys j)) l.initial.answers l.i l.answers
