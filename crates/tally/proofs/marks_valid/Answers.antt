-- `tally::marks_valid` meets its contract: the loop stops at the first mark that cannot be.
use Rattle.std.proofs.Common.{◌∙◌, arith}
use Rattle.std.proofs.lemmas.List.{length_push}
use Rattle.settings.specs.Checked.{paper}
use Rattle.tally.proofs.TallyLaws.{any_start, any_hit, any_on, any_over, bucket_some, left_start, chunk, left_none, marks_any}
use Rattle.tally.proofs.marks_valid.Goals as goal

pub chunks_exact-bucket-items-requires : goal.chunks_exact-bucket-items-requires
chunks_exact-bucket-items-requires c = rw c.bucket_size.ensures (bucket_some (paper c.args.s) c.requires.0)

pub loop-bucket-init : goal.loop-bucket-init
loop-bucket-init c =
    let chunks = c.chunks_exact-bucket-items.ensures in
    record {
      left = left_start c.requires.0 c.requires.1 c.into_iter-bucket-iterator.ensures.into_iter_gives chunks.rest (chunks.size ∙ c.bucket_size.ensures);
      valid = any_start;
    }

pub loop-bucket-init-derived : goal.loop-bucket-init-derived
loop-bucket-init-derived c = (
  rw (c.into_iter-bucket-iterator.ensures.into_iter_gives, c.chunks_exact-bucket-items.ensures.size, c.bucket_size.ensures)
      (bucket_some (paper c.args.s) c.requires.0),
  tt,
)

pub loop-bucket-preserved : goal.loop-bucket-preserved
loop-bucket-preserved c =
    let here = chunk {u = c.next.new.self} c.loop-bucket.invariant.left c.in-Some.bucket c.in-Some.ensures.steps in
    let on = any_on c.loop-bucket.invariant.valid here.few (rw (← here.mark, ← c.from-mark.ensures) c.if-s-mark.false) in
    rw length_push (record { left = here.next; valid = on })

pub returns-then-s-mark : goal.returns-then-s-mark
returns-then-s-mark c =
    let here = chunk {u = c.next.new.self} c.loop-bucket.invariant.left c.in-Some.bucket c.in-Some.ensures.steps in
    let hit = any_hit c.loop-bucket.invariant.valid here.few (rw (← here.mark, ← c.from-mark.ensures) c.if-s-mark.true) in
    rw (marks_any (paper c.args.s) c.args.buckets.now, hit)

pub returns : goal.returns
returns c =
    let all = left_none c.loop-bucket.invariant.left c.in-None.ensures.steps in
    rw (marks_any (paper c.args.s) c.args.buckets.now, any_over c.loop-bucket.invariant.valid (omega (arith, all)))
