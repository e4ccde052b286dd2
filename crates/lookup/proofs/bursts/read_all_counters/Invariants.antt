-- The first numbers are what the counters say by the H that stood there.
use Rattle.std.proofs.Common.{get_or}
use Rattle.settings.specs.Checked.{paper}
use Rattle.lookup.specs.Choosing.{key_counters_at}
use Rattle.lookup.specs.Bursts.{packed_of}
use Rattle.lookup.proofs.BurstLaws.{Passed}
use Rattle.lookup.proofs.bursts.read_all_counters.Given as goal

abbrev pub invariant-loop-i : goal.invariant-loop-i
invariant-loop-i l =
    Passed (λ j. packed_of (key_counters_at (paper l.s) l.clipped (get_or l.initial.answers j 0))) l.initial.answers l.i l.answers
