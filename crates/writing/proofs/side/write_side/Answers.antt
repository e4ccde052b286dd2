-- `writing::side::write_side` meets its contract: zeros, then the records that belong to the side, then their count.
use mathlib.Core.Path.{◌≡◌, sym, ap, ◌∙◌}
use mathlib.Core.List.{List, ◌++◌}
use Prim.Native.Nat.{ℕ, ◌-◌, ◌*◌, ◌≤◌}
use native.Mathlib.Omega.{arith}
use lib.ListN.{length, take, drop}
use lib.Seq.{drop_at, length-take-le}
use Rattle.theory.specs.Records.{to_bytes}
use Rattle.theory.specs.Settings.{Card, record_size, side_length}
use Rattle.theory.proofs.SettingsLaws.{sound}
use Rattle.settings.specs.Checked.{paper, card}
use Rattle.settings.proofs.Laws.{bounds}
use Rattle.memory.proofs.SliceLaws.{two_kept, tail_is, tail_back, zeros, zeros_drop}
use Rattle.writing.proofs.SideLaws.{sent_none, sent_need, side_none, side_written}
use Rattle.writing.proofs.side.write_side.Goals as goal

places_length : (s : Card) (n : ℕ) → n ≡ side_length s → n - 2 ≡ record_size s * s.side_places
unfolding side_length
places_length s n e = omega arith

pub returns-then-need-eq0 : goal.returns-then-need-eq0
returns-then-need-eq0 c =
    c.fill.ensures.after (λ y e. e) ∙ ap zeros c.requires.long ∙ sym (side_none c.requires.laying.placed (sym c.requires.need ∙ c.if-need-eq0.true))

pub slice_bounds-side_records-count : goal.slice_bounds-side_records-count
slice_bounds-side_records-count c =
    omega (arith, c.fill.ensures.len, c.requires.long, (bounds (paper c.args.s) c.requires.laying.ok).side_least)

pub slice_bounds-side_records-start : goal.slice_bounds-side_records-start
slice_bounds-side_records-start c =
    omega (arith, c.fill.ensures.len, c.requires.long, (bounds (paper c.args.s) c.requires.laying.ok).side_least)

pub side_records-requires-clause-enough : goal.side_records-requires-clause-enough
side_records-requires-clause-enough c = omega (arith, c.requires.need, c.requires.enough, sent_need c.requires.laying.placed)

pub side_records-requires-clause-before : goal.side_records-requires-clause-before
side_records-requires-clause-before c =
    let few : 2 ≤ length c.fill.new.self = omega (arith, c.fill.ensures.len, c.requires.long, (bounds (paper c.args.s) c.requires.laying.ok).side_least) in
    tail_is 2 c.fill.new.self few ∙ ap (drop 2) (c.fill.ensures.after (λ y e. e)) ∙ zeros_drop (length c.args.side.now) 2
    ∙ sent_none (card c.args.s) c.args.placement c.args.area.now _ (places_length (card c.args.s) (length c.args.side.now) c.requires.long)

pub write_number-requires : goal.write_number-requires
write_number-requires c =
    let few : 2 ≤ length c.fill.new.self = omega (arith, c.fill.ensures.len, c.requires.long, (bounds (paper c.args.s) c.requires.laying.ok).side_least) in (
      two_kept 2 (length c.fill.new.self - 2) c.fill.new.self c.side_records.new.store (omega arith) few,
      omega (arith, c.requires.enough, (sound (paper c.args.s) c.requires.laying.ok).side_small),
    )

pub returns : goal.returns
returns c =
    let few : 2 ≤ length c.fill.new.self = omega (arith, c.fill.ensures.len, c.requires.long, (bounds (paper c.args.s) c.requires.laying.ok).side_least) in
    let places = c.side_records.new.store in
    let front = drop_at (take 2 c.fill.new.self) places 2 (length-take-le 2 c.fill.new.self few) in
    c.write_number.ensures
    ∙ ap (λ (l : List ℕ). to_bytes 2 c.args.need ++ drop 2 l) (tail_back 2 c.fill.new.self places few)
    ∙ ap (λ (l : List ℕ). to_bytes 2 c.args.need ++ l) (front ∙ c.side_records.ensures)
    ∙ side_written c.requires.laying.placed c.args.need c.requires.need
