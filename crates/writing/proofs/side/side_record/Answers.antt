-- `writing::side::side_record` meets its contract: the kept choice says whether the record belongs to the side, and if it does it is put at the free place.
use mathlib.Core.Path.{◌≡◌, sym, ap, ◌∙◌}
use mathlib.Core.Bool.{Bool, true, false}
use mathlib.Core.List.{List}
use Prim.Native.Nat.{ℕ, ◌+◌, ◌-◌, ◌*◌, ◌<◌, ◌≤◌}
use native.Mathlib.Nat.{mul-add, mul-one}
use native.Mathlib.Omega.{arith}
use mir.Syntax.{w8}
use mir.Val.{Fits}
use lib.ListN.{length, take, drop}
use Rattle.theory.specs.Settings.{record_size}
use Rattle.settings.specs.declared.Settings.{Settings}
use Rattle.settings.specs.Checked.{card}
use Rattle.memory.proofs.SliceLaws.{back, length_part, length_lent, back_is}
use Rattle.placing.specs.declared.Placement.{Placement}
use Rattle.placing.specs.Worked.{nth, side_by_choice}
use Rattle.writing.specs.Laying.{Laying}
use Rattle.writing.specs.Side.{sent, sent_places}
use Rattle.writing.proofs.ChoiceLaws.{turn, kept_most, kept_side}
use Rattle.writing.proofs.TurnLaws.{turn_inside}
use Rattle.writing.proofs.SideLaws.{not_sent, sent_length, place_within, sent_put}
use Rattle.writing.proofs.side.side_record.Goals as goal

next_free : (z size free j k : ℕ) → size ≡ z → free ≡ z * j → k ≡ j + 1 → free + size ≡ z * k
next_free z size free j k e f g = rw (e, f, g, mul-add, mul-one)

module _ {s : Settings} {p : Placement} {area : List ℕ} {i : ℕ} (laying : Laying s p area) (below : i < length p.choices.now)
    (octets : (k : ℕ) → Fits w8 (nth area k)) {out : Bool} (said : out ≡ side_by_choice (card s) (nth p.choosers.now) (nth p.choices.now i)) where
  stays : out ≡ false → sent (card s) p i area ≡ sent (card s) p (i + 1) area
  stays other = not_sent (turn laying i below octets) laying.placed (sym (said ∙ kept_side laying i below) ∙ other)

  module _ (side : out ≡ true) {free size : ℕ} {store : List ℕ} (enough : length (sent (card s) p (length p.choices.now) area) ≤ (card s).side_places)
      (free_is : free ≡ record_size (card s) * length (sent (card s) p i area)) (before : store ≡ sent_places (card s) p i area)
      (is_size : size ≡ record_size (card s)) where
    place : free + size ≤ length store
    place =
        let room = place_within (turn laying i below octets) laying.placed enough (sym (said ∙ kept_side laying i below) ∙ side) in
        omega (arith, room, free_is, ap length before, is_size)

    next : free + size ≡ record_size (card s) * length (sent (card s) p (i + 1) area)
    next =
        next_free _ size free _ _ is_size free_is (sent_length (turn laying i below octets) laying.placed (sym (said ∙ kept_side laying i below) ∙ side))

    put : (ys : List ℕ) → ys ≡ take size (drop (i * size) area) → back free (free + size - free) store ys ≡ sent_places (card s) p (i + 1) area
    put ys e =
        let size_is : size ≡ (card s).width + 4 = unfold record_size in is_size in
        let bytes : take size (drop (i * size) area) ≡ take ((card s).width + 4) (drop (i * ((card s).width + 4)) area) = rw size_is in
        back_is free _ size _ store _ ys _ free_is is_size before (e ∙ bytes)
        ∙ sent_put (turn laying i below octets) laying.placed enough (sym (said ∙ kept_side laying i below) ∙ side)

pub aside-requires-clause-within : goal.aside-requires-clause-within
aside-requires-clause-within c = kept_most c.requires.laying c.args.i

pub returns-then-not-aside-clause-free : goal.returns-then-not-aside-clause-free
returns-then-not-aside-clause-free c =
    let same = stays c.requires.laying c.requires.turn c.type_inv.area c.aside.ensures c.if-not-aside.true in
    c.requires.free ∙ rw same

pub returns-then-not-aside-clause-after : goal.returns-then-not-aside-clause-after
returns-then-not-aside-clause-after c =
    let same = stays c.requires.laying c.requires.turn c.type_inv.area c.aside.ensures c.if-not-aside.true in
    c.requires.before ∙ rw same

pub overflow_add-end : goal.overflow_add-end
overflow_add-end c =
    let here =
    place c.requires.laying c.requires.turn c.type_inv.area c.aside.ensures c.if-not-aside.false c.requires.enough c.requires.free c.requires.before
    c.record_size-size.ensures in
    omega (arith, here)

pub slice_bounds-copy-end : goal.slice_bounds-copy-end
slice_bounds-copy-end c =
    place c.requires.laying c.requires.turn c.type_inv.area c.aside.ensures c.if-not-aside.false c.requires.enough c.requires.free c.requires.before
    c.record_size-size.ensures

pub record_at-requires : goal.record_at-requires
unfolding record_size
record_at-requires c =
    turn_inside (turn c.requires.laying c.args.i c.requires.turn c.type_inv.area) c.record_size-size.result c.record_size-size.ensures

pub copy-requires : goal.copy-requires
unfolding record_size
copy-requires c =
    let inside = turn_inside (turn c.requires.laying c.args.i c.requires.turn c.type_inv.area) c.record_size-size.result c.record_size-size.ensures in
    let here =
    place c.requires.laying c.requires.turn c.type_inv.area c.aside.ensures c.if-not-aside.false c.requires.enough c.requires.free c.requires.before
    c.record_size-size.ensures in
    length_lent c.args.free c.record_size-size.result c.args.store.now here
    ∙ sym (ap length c.record_at.ensures ∙ length_part (c.args.i * c.record_size-size.result) c.record_size-size.result c.args.area.now inside)

pub returns-clause-free : goal.returns-clause-free
returns-clause-free c =
    next c.requires.laying c.requires.turn c.type_inv.area c.aside.ensures c.if-not-aside.false c.requires.enough c.requires.free c.requires.before
    c.record_size-size.ensures

pub returns-clause-after : goal.returns-clause-after
returns-clause-after c =
    put c.requires.laying c.requires.turn c.type_inv.area c.aside.ensures c.if-not-aside.false c.requires.enough c.requires.free c.requires.before
    c.record_size-size.ensures _ (c.copy.ensures ∙ c.record_at.ensures)
