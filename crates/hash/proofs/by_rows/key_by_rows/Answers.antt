-- A turn takes one byte more by its eight rows, the law `byte_more`. Which byte it takes is asked by its place in the key.
use Rattle.std.proofs.Common.{refl, ap, ◌∙◌, ℕ, ◌*◌, get_or, arith}
use Rattle.theory.specs.Hash.{rows_of, H}
use Rattle.hash.proofs.RowLaws.{lent_rows}
use Rattle.hash.proofs.KeyHashLaws.{byte_more, byte_end}
use Rattle.hash.proofs.by_rows.key_by_rows.Goals as goal

pub loop-i-init : goal.loop-i-init
unfolding H
loop-i-init c = refl

pub loop-i-preserved : goal.loop-i-preserved
loop-i-preserved c =
    let i = c.loop-i.i in
    let by_rows = λ (place : ℕ). rows_of 8 (8 * i) (get_or c.args.key.now place 0) in
    byte_more c.args.key.now _ _ _ c.loop-i-test.true c.loop-i.invariant
    (c.xor_set-h.ensures ∙ lent_rows c.rows-rows.result.now c.rows-rows.ensures i (omega arith) _ ∙ ap by_rows (omega arith))

pub returns : goal.returns
returns c = byte_end c.args.key.now _ _ _ c.loop-i-test.false c.loop-i.invariant
