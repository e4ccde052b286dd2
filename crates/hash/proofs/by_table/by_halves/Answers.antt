-- A turn takes the two halves of one byte more, the law `halves_more`.
use Rattle.hash.proofs.KeyHashLaws.{halves_more, halves_end}
use Rattle.hash.proofs.by_table.by_halves.Goals as goal

pub loop-i-preserved : goal.loop-i-preserved
loop-i-preserved c = rw c.from-v.ensures (halves_more c.args.table.now c.args.key.now _ _ _ c.loop-i-test.true c.loop-i.invariant)

pub returns : goal.returns
returns c = halves_end c.args.table.now c.args.key.now _ _ _ c.loop-i-test.false c.loop-i.invariant
