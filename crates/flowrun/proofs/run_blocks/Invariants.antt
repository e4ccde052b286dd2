-- Each block is one of so many, of at most 512 calls each.
use Rattle.std.proofs.Common.{◌+◌, ◌*◌, ◌<◌}
use Rattle.flowrun.proofs.run_blocks.Given as goal

abbrev pub invariant-loop-block : goal.invariant-loop-block
invariant-loop-block l = (l.first < l._block * 512 + 2) × (l.waiting < 18)
