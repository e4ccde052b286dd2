-- `placing::counting::count_more` meets its contract: after i records each count is what it was and the true count of these.
use mathlib.Core.Path.{sym, ap, ◌∙◌}
use mathlib.Core.Bool.{cond}
use native.Mathlib.Omega.{arith}
use lib.Seq.{length-take-le}
use Rattle.std.proofs.Common.{ℕ, ◌+◌, List}
use Rattle.std.proofs.lemmas.List.{length_push}
use Rattle.theory.specs.Lists.{has}
use Rattle.theory.specs.Settings.{record_size}
use Rattle.settings.specs.Checked.{card}
use Rattle.placing.specs.Worked.{nth}
use Rattle.placing.proofs.PartLaws.{chunks_start, chunk, chunks_end, chunks_few, chunk_key}
use Rattle.placing.proofs.RecordCountLaws.{counted_none, counted_more, counted_few}
use Rattle.placing.proofs.counting.count_more.Goals as goal

pub chunks_exact-record-items-requires : goal.chunks_exact-record-items-requires
unfolding record_size
chunks_exact-record-items-requires c = omega (arith, c.record_size.ensures)

pub loop-record-init : goal.loop-record-init
unfolding record_size
loop-record-init c =
    let chunks = c.chunks_exact-record-items.ensures in (
      chunks_start c.into_iter-record-iterator.ensures.into_iter_gives chunks.rest (chunks.size ∙ c.record_size.ensures),
      counted_none (card c.args.s) c.args.counts.now c.args.part.now,
    )

pub loop-record-init-derived : goal.loop-record-init-derived
unfolding record_size
loop-record-init-derived c =
    (rw (c.into_iter-record-iterator.ensures.into_iter_gives, c.chunks_exact-record-items.ensures.size, c.record_size.ensures) (omega arith), tt)

pub slice_bounds-h_of-end : goal.slice_bounds-h_of-end
slice_bounds-h_of-end c =
    let here = chunk {t = c.next.new.self} c.loop-record.invariant.0 c.in-Some.record c.in-Some.ensures.steps in
    sym (length-take-le c.width-width.result c.in-Some.record.now (omega (arith, here.long, c.width-width.ensures)))

pub h_of-requires-clause-wide : goal.h_of-requires-clause-wide
h_of-requires-clause-wide c =
    let here = chunk {t = c.next.new.self} c.loop-record.invariant.0 c.in-Some.record c.in-Some.ensures.steps in
    length-take-le c.width-width.result c.in-Some.record.now (omega (arith, here.long, c.width-width.ensures)) ∙ c.width-width.ensures

pub raise_at-requires-clause-few : goal.raise_at-requires-clause-few
raise_at-requires-clause-few c =
    let so_far = c.loop-record.invariant in
    counted_few (card c.args.s) _ _ _ _ _ so_far.1 (chunks_few so_far.0 (omega arith)) c.requires.few

pub loop-record-preserved : goal.loop-record-preserved
loop-record-preserved c =
    let s = card c.args.s in
    let here = chunk {t = c.next.new.self} c.loop-record.invariant.0 c.in-Some.record c.in-Some.ensures.steps in
    let key_is = chunk_key s.width c.in-Some.record.now here (omega arith) in
    let by_key = c.raise_at.ensures _ c.h_of.ensures in
    rw length_push (
      here.next,
      counted_more s _ _ _ _ _ c.loop-record.invariant.1 c.raise_at.auto.counts
          (λ b. by_key b ∙ ap (λ (k : List ℕ). nth c.loop-record.counts b + cond {A = ℕ} (has b (s.numbers k)) 1 0) (rw c.width-width.ensures key_is)),
    )

pub returns : goal.returns
returns c =
    let all = chunks_end c.loop-record.invariant.0 (omega arith) c.in-None.ensures.steps in
    λ b. rw (← all) (c.loop-record.invariant.1.each b)
