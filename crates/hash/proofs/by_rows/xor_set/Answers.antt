-- A turn takes one row more, the law `set_more`.
use Rattle.hash.proofs.KeyHashLaws.{set_more, set_end}
use Rattle.hash.proofs.by_rows.xor_set.Goals as goal

pub loop-row-preserved : goal.loop-row-preserved
loop-row-preserved c = set_more _ _ _ _ _ c.loop-row-test.true c.loop-row.invariant c.if_set-h.ensures

pub returns : goal.returns
returns c = set_end _ _ _ _ _ c.loop-row-test.false c.loop-row.invariant
