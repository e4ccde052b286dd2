-- A call more in each turn.
use Rattle.std.proofs.Common.{arith}
use Rattle.bench_load.proofs.LoadLaws.{filled_none, filled_more, filled_all}
use Rattle.bench_load.proofs.fill.Goals as goal

pub loop-i-init : goal.loop-i-init
loop-i-init c = filled_none _ _ _

pub loop-i-preserved : goal.loop-i-preserved
loop-i-preserved c = filled_more c.loop-i.invariant c.loop-i-test.true c.write_next.new.to _ c.write_next.ensures.call c.write_next.ensures.after

pub returns-clause-calls : goal.returns-clause-calls
returns-clause-calls c = filled_all c.loop-i.invariant c.requires.whole (omega arith)
