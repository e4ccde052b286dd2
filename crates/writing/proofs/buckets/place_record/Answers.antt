-- `writing::buckets::place_record` meets its contract: the kept choice says whether the record belongs to the side, and else in which bucket's part it is put.
use mathlib.Core.Path.{◌≡◌, refl, sym, ap, ◌∙◌}
use mathlib.Core.Bool.{Bool, true, false}
use mathlib.Core.List.{List}
use Prim.Native.Nat.{ℕ, ◌+◌, ◌*◌, ◌<◌, ◌≤◌}
use native.Mathlib.Nat.{mul_comm}
use native.Mathlib.Omega.{arith}
use mir.Syntax.{w8}
use mir.Val.{Fits}
use lib.ListN.{length}
use Rattle.theory.specs.Settings.{Card, record_size, bucket_size}
use Rattle.theory.proofs.SettingsLaws.{sound}
use Rattle.settings.specs.declared.Settings.{Settings}
use Rattle.settings.specs.Checked.{paper, card}
use Rattle.memory.proofs.SliceLaws.{length_part, length_lent, row_fits}
use Rattle.placing.specs.declared.Placement.{Placement}
use Rattle.placing.specs.Worked.{nth, side_by_choice}
use Rattle.writing.specs.Laying.{Laying}
use Rattle.writing.specs.Buckets.{placed, appended}
use Rattle.writing.proofs.ChoiceLaws.{turn, kept_is, kept_most, kept_side}
use Rattle.writing.proofs.TurnLaws.{turn_inside}
use Rattle.writing.proofs.BucketLaws.{skip_side, row_lent, ChosenPart, chosen_part}
use Rattle.writing.proofs.buckets.place_record.Goals as goal

module _ {s : Settings} {p : Placement} {area : List ℕ} {i : ℕ} {buckets : List ℕ} (laying : Laying s p area) (below : i < length p.choices.now)
    (octets : (k : ℕ) → Fits w8 (nth area k)) (before : buckets ≡ placed (card s) p i area) {out : Bool}
    (said : out ≡ side_by_choice (card s) (nth p.choosers.now) (nth p.choices.now i)) where
  skip : out ≡ true → buckets ≡ placed (card s) p (i + 1) area
  skip side =
      before ∙ skip_side (sound (paper s) laying.ok) (turn laying i below octets) laying.placed (sym (said ∙ kept_side laying i below) ∙ side)

  here : out ≡ false → (size part_size bucket : ℕ) → size ≡ record_size (card s) → part_size ≡ bucket_size (card s) → bucket ≡ nth p.choices.now i
      → ChosenPart (card s) p i area size part_size bucket buckets
  unfolding record_size
  here other size part_size bucket is_size is_part is_bucket =
      chosen_part (sound (paper s) laying.ok) (turn laying i below octets) laying.placed size part_size bucket buckets is_size is_part before
      (is_bucket ∙ kept_is laying i below) (sym (said ∙ kept_side laying i below) ∙ other)

-- a low mark leaves room for one record more
room_for : (s : Card) (size part_size mark record_length part_length : ℕ) → size ≡ record_size s → part_size ≡ bucket_size s
    → record_length ≡ size → part_length ≡ part_size → mark < s.room → 1 + record_length * mark + record_length ≤ part_length
unfolding bucket_size
room_for s size part_size mark record_length part_length e f g h low =
    rw (g, h, e, f) (omega (arith, row_fits mark s.room (record_size s) low, mul_comm (record_size s) mark, mul_comm (record_size s) s.room))

pub aside-requires-clause-within : goal.aside-requires-clause-within
aside-requires-clause-within c = kept_most c.requires.laying c.args.i

pub returns-then-aside : goal.returns-then-aside
returns-then-aside c = skip c.requires.laying c.requires.turn c.type_inv.area c.requires.before c.aside.ensures c.if-aside.true

pub overflow_mul-start : goal.overflow_mul-start
overflow_mul-start c =
    let part =
    here c.requires.laying c.requires.turn c.type_inv.area c.requires.before c.aside.ensures c.if-aside.false _ _ _ refl c.bucket_size-size.ensures
    c.from.ensures in
    omega (arith, part.within)

pub overflow_add-start : goal.overflow_add-start
overflow_add-start c =
    let part =
    here c.requires.laying c.requires.turn c.type_inv.area c.requires.before c.aside.ensures c.if-aside.false _ _ _ refl c.bucket_size-size.ensures
    c.from.ensures in
    omega (arith, part.within)

pub slice_bounds-append-end : goal.slice_bounds-append-end
slice_bounds-append-end c =
    let part =
    here c.requires.laying c.requires.turn c.type_inv.area c.requires.before c.aside.ensures c.if-aside.false _ _ _ refl c.bucket_size-size.ensures
    c.from.ensures in
    part.within

pub record_at-requires : goal.record_at-requires
unfolding record_size
record_at-requires c = turn_inside (turn c.requires.laying c.args.i c.requires.turn c.type_inv.area) c.record_size.result c.record_size.ensures

pub append-requires-clause-low : goal.append-requires-clause-low
append-requires-clause-low c =
    let part =
    here c.requires.laying c.requires.turn c.type_inv.area c.requires.before c.aside.ensures c.if-aside.false _ _ _ c.record_size.ensures
    c.bucket_size-size.ensures c.from.ensures in
    omega (arith, part.mark_low, (sound (paper c.args.s) c.requires.laying.ok).room_small)

pub append-requires-clause-room : goal.append-requires-clause-room
unfolding record_size
append-requires-clause-room c =
    let part =
    here c.requires.laying c.requires.turn c.type_inv.area c.requires.before c.aside.ensures c.if-aside.false _ _ _ c.record_size.ensures
    c.bucket_size-size.ensures c.from.ensures in
    let inside = turn_inside (turn c.requires.laying c.args.i c.requires.turn c.type_inv.area) c.record_size.result c.record_size.ensures in
    room_for (card c.args.s) c.record_size.result c.bucket_size-size.result _ _ _ c.record_size.ensures c.bucket_size-size.ensures
    (ap length c.record_at.ensures ∙ length_part (c.args.i * c.record_size.result) c.record_size.result c.args.area.now inside)
    (length_lent (c.from.result * c.bucket_size-size.result) c.bucket_size-size.result c.args.buckets.now part.within) part.mark_low

pub returns : goal.returns
returns c =
    let part =
    here c.requires.laying c.requires.turn c.type_inv.area c.requires.before c.aside.ensures c.if-aside.false _ _ _ c.record_size.ensures
    c.bucket_size-size.ensures c.from.ensures in
    part.one_more _ (c.append.ensures ∙ ap (appended (row_lent c.from.result c.bucket_size-size.result c.args.buckets.now)) c.record_at.ensures)
