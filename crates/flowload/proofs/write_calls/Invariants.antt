-- Each piece leaves fewer calls of the same flows.
use Rattle.std.proofs.Common.{◌<◌}
use Rattle.flowload.proofs.write_calls.Given as goal

abbrev pub invariant-loop-left : goal.invariant-loop-left
invariant-loop-left l = 0 < l.left.flows

abbrev pub decreases-loop-left : goal.decreases-loop-left
decreases-loop-left l = l.left.count
