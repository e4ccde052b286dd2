-- `tally::counters_valid` meets its contract: the loop stops at the first counter above T.
use Rattle.std.proofs.Common.{sym, ap, ◌∙◌, ltb, arith}
use Rattle.settings.specs.Checked.{paper}
use Rattle.tally.proofs.TallyLaws.{any_start, any_hit, any_on, any_over, counter_in}
use Rattle.tally.proofs.counters_valid.Goals as goal

pub loop-b-init : goal.loop-b-init
loop-b-init c = any_start

pub counter-requires : goal.counter-requires
counter-requires c = counter_in (paper c.args.s) c.args.clipped.now c.loop-b.b _ c.requires.0 c.requires.1 c.buckets-m.ensures (omega arith)

pub loop-b-preserved : goal.loop-b-preserved
loop-b-preserved c =
    any_on c.loop-b.invariant (omega arith) (ap (ltb c.args.s.top) (sym c.counter.ensures.0) ∙ sym c.above.ensures ∙ c.if-above.false)

pub returns-then-above : goal.returns-then-above
returns-then-above c =
    rw (
      ← c.buckets-m.ensures,
      any_hit c.loop-b.invariant (omega arith) (ap (ltb c.args.s.top) (sym c.counter.ensures.0) ∙ sym c.above.ensures ∙ c.if-above.true),
    )

pub returns : goal.returns
returns c = rw (← c.buckets-m.ensures, any_over c.loop-b.invariant (omega arith))
