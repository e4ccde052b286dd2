-- `writing::counts::write_clipped` meets its contract: the first i bytes are clipped counts, and each turn writes one byte more.
use Rattle.std.proofs.Common.{ℕ, min, length, refl, sym, ap, ◌∙◌, arith}
use Rattle.memory.proofs.CopyLaws.{copied_more}
use Rattle.placing.specs.Worked.{nth}
use Rattle.writing.proofs.CountLaws.{clipped_length, clipped_at}
use Rattle.writing.proofs.counts.write_clipped.Goals as goal

pub loop-i-init : goal.loop-i-init
loop-i-init c = record { inside = omega arith; long = sym (clipped_length c.args.top (nth c.args.counts.now) (length c.args.clipped.now)); front = refl }

pub loop-i-preserved : goal.loop-i-preserved
loop-i-preserved c =
    let n = length c.args.clipped.now in
    let long = clipped_length c.args.top (nth c.args.counts.now) n in
    let low = c.clip-low.ensures ∙ ap (λ (n : ℕ). min n c.args.top) c.of_number.ensures in
    let high = c.clip-high.ensures ∙ ap (λ (n : ℕ). min n c.args.top) c.of_number-in-loop-i.ensures in
    copied_more c.loop-i.invariant _
    (c.byte_of.ensures ∙ clipped_at c.args.top (nth c.args.counts.now) n c.loop-i.i _ _ (omega (arith, c.loop-i.invariant.long, long)) low high)
    (omega (arith, c.loop-i.invariant.long, long))
