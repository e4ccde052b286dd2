-- A turn takes one byte more, the law `bytes_more`; a right table gives H, the law `bytes_right`.
use Rattle.std.proofs.Common.{length, ◌∙◌, arith}
use Rattle.theory.specs.Hash.{H}
use Rattle.hash.proofs.KeyHashLaws.{bytes_more, bytes_end, bytes_right}
use Rattle.hash.proofs.by_table.by_bytes.Goals as goal

pub loop-i-preserved : goal.loop-i-preserved
loop-i-preserved c = rw c.from.ensures (bytes_more c.args.table.now c.args.key.now _ _ _ c.loop-i-test.true c.loop-i.invariant)

pub returns-clause-entries : goal.returns-clause-entries
returns-clause-entries c = bytes_end c.args.table.now c.args.key.now _ _ _ c.loop-i-test.false c.loop-i.invariant

pub returns-clause-right : goal.returns-clause-right
unfolding H
returns-clause-right c = λ right.
    bytes_end c.args.table.now c.args.key.now _ _ _ c.loop-i-test.false c.loop-i.invariant
    ∙ bytes_right (length c.args.key.now) c.args.table.now right 0 c.args.key.now (omega arith) (λ j. omega (arith, c.type_inv.key j))
