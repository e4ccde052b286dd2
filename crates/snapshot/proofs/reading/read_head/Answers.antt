-- the second count stands in the last two bytes of a head that is there
use Rattle.std.proofs.Common.{◌≡◌, List, ℕ, ◌-◌, ◌≤◌, false, length, arith, refl, sym, ap, ◌∙◌}
use Rattle.theory.specs.Records.{count_of}
use Rattle.theory.specs.Snapshot.{second_count_at, head_size, head_wrong}
use Rattle.memory.proofs.SliceLaws.{length_tail}
use Rattle.snapshot.proofs.FileLaws.{head_there, first_known, count_lent}
use Rattle.snapshot.proofs.reading.read_head.Goals as goal

pub returns-then-head_wrong-clause-wrong : goal.returns-then-head_wrong-clause-wrong
returns-then-head_wrong-clause-wrong c = (refl, sym c.head_wrong.ensures ∙ c.if-head_wrong.true)

pub count_at-settings-requires : goal.count_at-settings-requires
count_at-settings-requires c = let there = head_there c.args.file.now (sym c.head_wrong.ensures ∙ c.if-head_wrong.false) in omega arith

pub head_size-size-requires : goal.head_size-size-requires
head_size-size-requires c =
    let known = first_known c.args.file.now (sym c.head_wrong.ensures ∙ c.if-head_wrong.false) in omega (arith, c.count_at-settings.ensures.0)

-- the head's bytes are there
inside : (f : List ℕ) → head_wrong f ≡ false → (n size : ℕ) → n ≡ count_of f → size ≡ head_size n → size ≤ length f
inside f right n size e z = let there = head_there f right in omega (arith, z, ap head_size e)

pub slice_bounds-count_at-count : goal.slice_bounds-count_at-count
slice_bounds-count_at-count c =
    let there = inside c.args.file.now (sym c.head_wrong.ensures ∙ c.if-head_wrong.false) _ _ c.count_at-settings.ensures.0 c.head_size-size.ensures in
    omega arith

pub slice_bounds-count_at-start : goal.slice_bounds-count_at-start
slice_bounds-count_at-start c =
    let there = inside c.args.file.now (sym c.head_wrong.ensures ∙ c.if-head_wrong.false) _ _ c.count_at-settings.ensures.0 c.head_size-size.ensures in
    omega arith

pub count_at-requires : goal.count_at-requires
count_at-requires c =
    let f = c.args.file.now in
    let there = inside f (sym c.head_wrong.ensures ∙ c.if-head_wrong.false) _ _ c.count_at-settings.ensures.0 c.head_size-size.ensures in
    omega (arith, length_tail (c.head_size-size.result - 2) f (omega arith), c.head_size-size.ensures)

pub returns-clause-read : goal.returns-clause-read
returns-clause-read c =
    let f = c.args.file.now in
    let right = sym c.head_wrong.ensures ∙ c.if-head_wrong.false in
    let there = head_there f right in
    let known = first_known f right in
    let first = c.count_at-settings.ensures.0 in
    let size = c.head_size-size.ensures ∙ ap head_size first in
    let second : c.head_size-size.result - 2 ≡ second_count_at (count_of f) = omega (arith, size) in
    record {
      right = right;
      settings = first;
      size = size;
      count = count_lent f second (omega (arith, size, there)) c.count_at.ensures.0;
      least = known.0;
      few = known.1;
      there = omega (arith, size, there);
    }
