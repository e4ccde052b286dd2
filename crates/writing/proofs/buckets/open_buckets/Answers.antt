-- `writing::buckets::open_buckets` meets its contract: the first b parts are blank buckets, and each turn opens the next part.
use mathlib.Core.Path.{◌≡◌, refl, sym, ap, ◌∙◌}
use Prim.Native.Nat.{ℕ, ◌+◌, ◌*◌, ◌<◌, ◌≤◌}
use native.Mathlib.Nat.{zero-mul}
use native.Mathlib.Omega.{arith}
use lib.Dec.{ltb}
use lib.ListN.{length}
use lib.Seq.{take_all}
use Rattle.theory.specs.Settings.{bucket_size, buckets_length}
use Rattle.settings.specs.declared.Settings.{Settings}
use Rattle.settings.specs.Checked.{paper, card}
use Rattle.settings.proofs.Laws.{room_is, buckets_length_is, bucket_within, bounds}
use Rattle.memory.proofs.SliceLaws.{length_lent, row_next}
use Rattle.placing.specs.Worked.{nth}
use Rattle.writing.specs.Buckets.{crowded_by}
use Rattle.writing.proofs.BucketLaws.{blank_none, opened_more}
use Rattle.writing.proofs.buckets.open_buckets.Goals as goal

-- the part of bucket b lies in an area of n bytes
inside : (s : Settings) (b m size n : ℕ) → b < m → m ≡ (card s).buckets → size ≡ bucket_size (card s) → n ≡ buckets_length (card s) → b * size + size ≤ n
inside s b m size n lt f e g = rw (e, g) (bucket_within (paper s) b (omega arith))

pub loop-b-init : goal.loop-b-init
loop-b-init c = rw zero-mul (blank_none _ _)

pub overflow_mul-at : goal.overflow_mul-at
overflow_mul-at c =
    let here =
    inside c.args.s c.loop-b.b _ _ (length c.loop-b.buckets) c.loop-b-test.true c.requires.places c.bucket_size-size.ensures
    (c.loop-b.auto.buckets ∙ c.requires.long) in
    omega (arith, here, c.loop-b.auto.buckets, c.requires.long, (bounds (paper c.args.s) c.requires.ok).buckets_length_most)

pub overflow_add-at : goal.overflow_add-at
overflow_add-at c =
    let here =
    inside c.args.s c.loop-b.b _ _ (length c.loop-b.buckets) c.loop-b-test.true c.requires.places c.bucket_size-size.ensures
    (c.loop-b.auto.buckets ∙ c.requires.long) in
    omega (arith, here, c.loop-b.auto.buckets, c.requires.long, (bounds (paper c.args.s) c.requires.ok).buckets_length_most)

pub slice_bounds-open_bucket-end : goal.slice_bounds-open_bucket-end
slice_bounds-open_bucket-end c =
    inside c.args.s c.loop-b.b _ _ (length c.loop-b.buckets) c.loop-b-test.true c.requires.places c.bucket_size-size.ensures
    (c.loop-b.auto.buckets ∙ c.requires.long)

pub open_bucket-requires : goal.open_bucket-requires
open_bucket-requires c =
    let here =
    inside c.args.s c.loop-b.b _ _ (length c.loop-b.buckets) c.loop-b-test.true c.requires.places c.bucket_size-size.ensures
    (c.loop-b.auto.buckets ∙ c.requires.long) in
    rw (length_lent (c.loop-b.b * c.bucket_size-size.result) c.bucket_size-size.result c.loop-b.buckets here)
    (omega (arith, c.bucket_size-size.ensures, (bounds (paper c.args.s) c.requires.ok).bucket_size_least))

pub loop-b-preserved : goal.loop-b-preserved
loop-b-preserved c =
    let s = card c.args.s in
    let size = c.bucket_size-size.result in
    let here =
    inside c.args.s c.loop-b.b _ size (length c.loop-b.buckets) c.loop-b-test.true c.requires.places c.bucket_size-size.ensures
    (c.loop-b.auto.buckets ∙ c.requires.long) in
    let test =
    ap (ltb c.args.s.room) c.from.ensures ∙ ap (λ (room : ℕ). ltb room (nth c.args.placement.choosers.now c.loop-b.b)) (sym (room_is (paper c.args.s))) in
    rw (sym (row_next (c.loop-b.b * size) c.loop-b.b size refl))
    (opened_more s (crowded_by s c.args.placement.choosers.now) c.loop-b.b (c.loop-b.b * size) size c.loop-b.buckets c.open_bucket.new.part _
    c.bucket_size-size.ensures here test c.open_bucket.ensures c.loop-b.invariant)

pub returns : goal.returns
returns c =
    let end : c.loop-b.b ≡ (card c.args.s).buckets = omega (arith, c.requires.places) in
    let all : length c.loop-b.buckets ≤ c.loop-b.b * c.bucket_size-size.result =
    rw (end, c.bucket_size-size.ensures) (omega (arith, c.loop-b.auto.buckets, c.requires.long, buckets_length_is (paper c.args.s))) in
    sym (take_all (c.loop-b.b * c.bucket_size-size.result) c.loop-b.buckets all) ∙ c.loop-b.invariant ∙ rw end
