-- A turn compares the keys of two neighbours, the law `rising_by`.
use Rattle.std.proofs.Common.{sym, ◌∙◌, arith}
use Rattle.ledger.proofs.RisingLaws.{rising_by, rising_end}
use Rattle.ledger.proofs.keys.keys_rise.Goals as goal

pub loop-i-preserved : goal.loop-i-preserved
loop-i-preserved c =
    sym (rising_by _ _ _ c.loop-i.i (omega arith) (omega arith) _ _ c.key_at-key.ensures c.key_at-next.ensures _ _ c.below_key.ensures c.if-not-below_key.false)
    ∙ c.loop-i.invariant

pub returns-then-not-below_key : goal.returns-then-not-below_key
returns-then-not-below_key c =
    sym (rising_by _ _ _ c.loop-i.i (omega arith) (omega arith) _ _ c.key_at-key.ensures c.key_at-next.ensures _ _ c.below_key.ensures c.if-not-below_key.true)
    ∙ c.loop-i.invariant

pub returns : goal.returns
returns c = sym (rising_end c.args.width c.args.n c.args.places.now c.loop-i.i (omega arith)) ∙ c.loop-i.invariant
