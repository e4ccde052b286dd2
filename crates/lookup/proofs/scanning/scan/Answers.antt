-- `lookup::scanning::scan` meets its contract: what is left of the scan gives what the whole does.
use Rattle.std.proofs.Common.{ap, sym, ◌∙◌, ◌+◌, ◌*◌, length, arith}
use Rattle.memory.proofs.SliceLaws.{length_part}
use Rattle.lookup.proofs.ScanLaws.{record_inside, scanning_start, scanning_hit, scanning_on, scanning_end}
use Rattle.lookup.proofs.scanning.scan.Goals as goal

pub loop-i-init : goal.loop-i-init
loop-i-init c = scanning_start

pub key_at-requires : goal.key_at-requires
key_at-requires c = omega (arith, record_inside c.requires c.loop-i.i (omega arith))

pub same_key-requires : goal.same_key-requires
same_key-requires c =
    sym (ap length c.key_at.ensures
    ∙ length_part (c.loop-i.i * (length c.args.key.now + 4)) (length c.args.key.now) c.args.place.now
    (omega (arith, record_inside c.requires c.loop-i.i (omega arith))))

pub loop-i-preserved : goal.loop-i-preserved
loop-i-preserved c =
    scanning_on c.loop-i.invariant (omega arith) (rw c.key_at.ensures at (sym c.same_key.ensures ∙ c.if-same_key.false))

pub returns-then-same_key : goal.returns-then-same_key
returns-then-same_key c =
    scanning_hit c.loop-i.invariant (omega arith) (rw c.key_at.ensures at (sym c.same_key.ensures ∙ c.if-same_key.true))

pub returns : goal.returns
returns c = scanning_end c.loop-i.invariant (omega arith)
