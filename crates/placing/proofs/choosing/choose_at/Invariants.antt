-- At hash j: the least rank so far, joined with the ranks of the hashes from j on, is the least of all.
use Rattle.std.proofs.Common.{◌≡◌, map}
use Rattle.theory.specs.Lists.{least}
use Rattle.theory.specs.Hash.{hashes}
use Rattle.theory.proofs.RankLaws.{rank}
use Rattle.placing.specs.Worked.{nth}
use Rattle.placing.proofs.choosing.choose_at.Given as goal

abbrev pub invariant-loop-j : goal.invariant-loop-j
invariant-loop-j l =
    least l.best (map (rank (nth l.counts)) (hashes l.m l.h l.j l.fn.s.k)) ≡ least l.initial.best (map (rank (nth l.counts)) (hashes l.m l.h 0 l.fn.s.k))
