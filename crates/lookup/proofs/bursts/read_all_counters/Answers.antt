-- `lookup::bursts::read_all_counters` meets its contract: the first i numbers are what the counters say by the H that stood there.
use Rattle.std.proofs.Common.{ap, ◌∙◌, arith}
use Rattle.settings.specs.Checked.{paper}
use Rattle.lookup.specs.Choosing.{key_counters_at}
use Rattle.lookup.specs.Bursts.{packed_of}
use Rattle.lookup.proofs.BurstLaws.{passed_none, passed_more, passed_all, at_small}
use Rattle.lookup.proofs.bursts.read_all_counters.Goals as goal

pub loop-i-init : goal.loop-i-init
loop-i-init c = passed_none

pub packed-requires : goal.packed-requires
packed-requires c = rw c.key_counters.ensures (at_small (paper c.args.s) c.requires.0 c.args.clipped.now _)

pub loop-i-preserved : goal.loop-i-preserved
loop-i-preserved c =
    passed_more c.loop-i.invariant _ (omega arith)
    (c.packed.ensures ∙ ap packed_of (c.key_counters.ensures
    ∙ ap (key_counters_at (paper c.args.s) c.args.clipped.now) (c.loop-i.invariant.left c.loop-i.i (omega arith))))

pub returns : goal.returns
returns c = passed_all c.loop-i.invariant (omega arith)
