-- `tally::sum_marks` meets its contract: at the end the buckets so far are all.
use mathlib.Core.Path.{refl}
use Rattle.std.proofs.Common.{◌∙◌, length, arith}
use borrow.Author.Tests.{eq-eqb, ne_eqb}
use Rattle.std.proofs.lemmas.List.{length_push}
use Rattle.settings.specs.Checked.{paper}
use Rattle.settings.proofs.Laws.{bounds}
use Rattle.tally.proofs.TallyLaws.{bucket_some, left_start, chunk, left_none, mark_byte, sum_more, marks_sum, marks_count}
use Rattle.tally.proofs.sum_marks.Goals as goal

pub chunks_exact-bucket-items-requires : goal.chunks_exact-bucket-items-requires
chunks_exact-bucket-items-requires c = rw c.bucket_size.ensures (bucket_some (paper c.args.s) c.requires.0)

pub loop-bucket-init : goal.loop-bucket-init
loop-bucket-init c =
    let chunks = c.chunks_exact-bucket-items.ensures in
    record {
      left = left_start c.requires.0 c.requires.1 c.into_iter-bucket-iterator.ensures.into_iter_gives chunks.rest (chunks.size ∙ c.bucket_size.ensures);
      records = refl;
      marked = refl;
      records_few = omega arith;
      marked_few = omega arith;
    }

pub loop-bucket-init-derived : goal.loop-bucket-init-derived
loop-bucket-init-derived c = (
  rw (c.into_iter-bucket-iterator.ensures.into_iter_gives, c.chunks_exact-bucket-items.ensures.size, c.bucket_size.ensures)
      (bucket_some (paper c.args.s) c.requires.0),
  tt,
)

pub overflow_add-marked_255 : goal.overflow_add-marked_255
overflow_add-marked_255 c =
    let here = chunk {u = c.next.new.self} c.loop-bucket.invariant.left c.in-Some.bucket c.in-Some.ensures.steps in
    omega (arith, c.loop-bucket.invariant.marked_few, here.few, (bounds (paper c.args.s) c.requires.0).buckets_most)

pub overflow_add-in_buckets : goal.overflow_add-in_buckets
overflow_add-in_buckets c =
    let here = chunk {u = c.next.new.self} c.loop-bucket.invariant.left c.in-Some.bucket c.in-Some.ensures.steps in
    let byte = mark_byte (paper c.args.s) c.args.buckets.now c.requires.0 (λ i. omega (arith, c.type_inv.buckets i)) (length c.loop-bucket.yielded) in
    omega (
      arith,
      c.loop-bucket.invariant.records_few,
      here.few,
      here.mark,
      byte,
      c.from-in_buckets.ensures,
      (bounds (paper c.args.s) c.requires.0).buckets_most,
    )

pub loop-bucket-preserved-then-mark : goal.loop-bucket-preserved-then-mark
loop-bucket-preserved-then-mark c =
    let here = chunk {u = c.next.new.self} c.loop-bucket.invariant.left c.in-Some.bucket c.in-Some.ensures.steps in
    let so_far = c.loop-bucket.invariant in
    rw (length_push, sum_more, sum_more, ← here.mark, eq-eqb _ 255 c.if-mark.true)
    (record {
      left = here.next;
      records = omega (arith, so_far.records);
      marked = omega (arith, so_far.marked);
      records_few = omega (arith, so_far.records_few);
      marked_few = omega (arith, so_far.marked_few);
    })

pub loop-bucket-preserved : goal.loop-bucket-preserved
loop-bucket-preserved c =
    let here = chunk {u = c.next.new.self} c.loop-bucket.invariant.left c.in-Some.bucket c.in-Some.ensures.steps in
    let so_far = c.loop-bucket.invariant in
    let byte = mark_byte (paper c.args.s) c.args.buckets.now c.requires.0 (λ i. omega (arith, c.type_inv.buckets i)) (length c.loop-bucket.yielded) in
    rw (length_push, sum_more, sum_more, ← here.mark, ne_eqb _ 255 c.if-mark.false)
    (record {
      left = here.next;
      records = omega (arith, so_far.records, c.from-in_buckets.ensures);
      marked = omega (arith, so_far.marked);
      records_few = omega (arith, so_far.records_few, c.from-in_buckets.ensures, here.mark, byte);
      marked_few = omega (arith, so_far.marked_few);
    })

pub returns : goal.returns
returns c =
    let all = left_none c.loop-bucket.invariant.left c.in-None.ensures.steps in
    record {
      in_buckets = rw (marks_sum (paper c.args.s) c.args.buckets.now, ← all) c.loop-bucket.invariant.records;
      marked_255 = rw (marks_count (paper c.args.s) c.args.buckets.now, ← all) c.loop-bucket.invariant.marked;
    }
