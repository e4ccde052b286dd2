-- each answer is the definition's
use Rattle.std.proofs.Common.{◌≡◌, ◌+◌, ◌*◌, ◌≤◌, ℕ, List, ◌-◌, length, take, drop, Bool, true, false, not, arith, sym, ap, ◌∙◌}
use Rattle.theory.specs.Settings.{Card, record_size}
use Rattle.theory.specs.Records.{count_of}
use Rattle.theory.specs.Ledger.{side_need_of}
use Rattle.theory.specs.Calls.{ledger_invalid}
use Rattle.theory.specs.Snapshot.{snapshot}
use Rattle.theory.proofs.ListLaws.{negated_false, negated_true}
use Rattle.theory.proofs.SettingsLaws.{ranges, sound}
use Rattle.theory.proofs.SnapshotLaws.{first_count_most}
use Rattle.settings.specs.declared.Settings.{Settings}
use Rattle.settings.specs.Checked.{paper, card}
use Rattle.settings.proofs.Laws.{capacity_is, side_places_are}
use Rattle.ledger.proofs.LedgerLaws.{has_count}
use Rattle.ledger.proofs.LedgerEditLaws.{listed}
use Rattle.placing.proofs.WorkLaws.{placed_within}
use Rattle.snapshot.specs.Files.{Saving}
use Rattle.snapshot.proofs.FileLaws.{few_bytes}
use Rattle.snapshot.proofs.FullPartLaws.{many, list_within, list_full, list_is}
use Rattle.snapshot.proofs.SaveLaws.{saves_4, saves_9, saves_12, saves_0}
use Rattle.snapshot.proofs.saving.save_checked.Goals as goal

-- the ledger was judged to be within its rules
within_rules : (c : Card) (ledger : List ℕ) {judged : Bool} → judged ≡ not (ledger_invalid c ledger) → judged ≡ true → ledger_invalid c ledger ≡ false
within_rules c ledger answered told = negated_true _ _ answered told

-- the ledger is within its rules, and has n records of a size
module _ {s : Settings} {table work ledger : List ℕ} (g : Saving s table work ledger) (valid : ledger_invalid (card s) ledger ≡ false) {n size : ℕ}
    (count : n ≡ count_of ledger) (sized : size ≡ record_size (card s)) where
  few : n ≤ s.capacity
  few = omega (arith, many (card s) ledger g.whole valid count sized, capacity_is (paper s))

  few_sized : size * n ≤ 167936
  few_sized = few_bytes (paper s) g.ready.ok size n sized few

  few_kept : n ≤ 4096
  few_kept = omega (arith, few, (ranges (paper s) g.ready.ok).capacity_high)

  abbrev list : List ℕ
  list = take (2 + size * n - 2) (drop 2 ledger)

  full : length list ≡ n * ((card s).width + 4)
  full = list_full (card s) ledger g.whole valid count sized

pub returns-then-not-valid : goal.returns-then-not-valid
returns-then-not-valid c = saves_4 c.requires c.args.target.now (negated_false c.valid.result _ c.valid.ensures c.if-not-valid.true)

pub count_at-count-requires : goal.count_at-count-requires
count_at-count-requires c = has_count (card c.args.s) c.args.ledger.now c.requires.whole

pub overflow_mul-list : goal.overflow_mul-list
overflow_mul-list c =
    let valid = within_rules (card c.args.s) c.args.ledger.now c.valid.ensures c.if-not-valid.false in
    omega (arith, few_sized c.requires valid c.count_at-count.ensures.0 c.record_size.ensures)

pub overflow_add-list : goal.overflow_add-list
overflow_add-list c =
    let valid = within_rules (card c.args.s) c.args.ledger.now c.valid.ensures c.if-not-valid.false in
    omega (arith, few_sized c.requires valid c.count_at-count.ensures.0 c.record_size.ensures)

pub slice_bounds-list-end : goal.slice_bounds-list-end
slice_bounds-list-end c =
    let valid = within_rules (card c.args.s) c.args.ledger.now c.valid.ensures c.if-not-valid.false in
    list_within (card c.args.s) c.args.ledger.now c.requires.whole valid c.count_at-count.ensures.0 c.record_size.ensures

pub place_list-placement-requires : goal.place_list-placement-requires
place_list-placement-requires c =
    let valid = within_rules (card c.args.s) c.args.ledger.now c.valid.ensures c.if-not-valid.false in
    let few = few_kept c.requires valid c.count_at-count.ensures.0 c.record_size.ensures in
    record {
      ready = c.requires.ready;
      full = full c.requires valid c.count_at-count.ensures.0 c.record_size.ensures;
      words = c.requires.words;
      choices = omega (arith, few);
      few = few;
    }

pub side_need-need-requires-clause-within : goal.side_need-need-requires-clause-within
side_need-need-requires-clause-within c = placed_within c.place_list-placement.ensures (sound (paper c.args.s) c.requires.ready.ok)

-- the records of the ledger are placed, so the side need is theirs
pub returns-then-s-need : goal.returns-then-s-need
returns-then-s-need c =
    let valid = within_rules (card c.args.s) c.args.ledger.now c.valid.ensures c.if-not-valid.false in
    let is = list_is (card c.args.s) c.args.ledger.now c.requires.whole valid c.count_at-count.ensures.0 c.record_size.ensures in
    let need = c.side_need-need.ensures _ c.place_list-placement.ensures ∙ ap (side_need_of (card c.args.s)) is in
    saves_9 c.requires c.args.target.now valid need (omega (arith, c.if-s-need.true, side_places_are (paper c.args.s)))

pub overflow_add-saved_head_size : goal.overflow_add-saved_head_size
overflow_add-saved_head_size c =
    let valid = within_rules (card c.args.s) c.args.ledger.now c.valid.ensures c.if-not-valid.false in
    let count = c.count_at-count.ensures.0 in
    let small = few_sized c.requires valid count c.record_size.ensures in
    let full = full c.requires valid count c.record_size.ensures in
    omega (arith, small, full, c.saved_head_size.ensures, first_count_most (paper c.args.s))

pub returns-then-target-saved_head_size : goal.returns-then-target-saved_head_size
returns-then-target-saved_head_size c =
    let valid = within_rules (card c.args.s) c.args.ledger.now c.valid.ensures c.if-not-valid.false in
    let is = list_is (card c.args.s) c.args.ledger.now c.requires.whole valid c.count_at-count.ensures.0 c.record_size.ensures in
    let need = c.side_need-need.ensures _ c.place_list-placement.ensures ∙ ap (side_need_of (card c.args.s)) is in
    saves_12 c.requires c.args.target.now valid need (omega (arith, c.if-s-need.false, side_places_are (paper c.args.s))) c.saved_head_size.ensures
    (c.count_at-count.ensures.0 ∙ sym (listed (card c.args.s) c.args.ledger.now c.requires.whole valid))
    (full c.requires valid c.count_at-count.ensures.0 c.record_size.ensures) c.if-target-saved_head_size.true

pub write_snapshot-requires : goal.write_snapshot-requires
write_snapshot-requires c =
    let valid = within_rules (card c.args.s) c.args.ledger.now c.valid.ensures c.if-not-valid.false in
    record {
      ok = c.requires.ready.ok;
      full = full c.requires valid c.count_at-count.ensures.0 c.record_size.ensures;
      long =
          c.if-target-saved_head_size.false
          ∙ ap (λ (z : ℕ). z + length (list c.requires valid c.count_at-count.ensures.0 c.record_size.ensures)) c.saved_head_size.ensures;
      few = many (card c.args.s) c.args.ledger.now c.requires.whole valid c.count_at-count.ensures.0 c.record_size.ensures;
    }

pub returns : goal.returns
returns c =
    let valid = within_rules (card c.args.s) c.args.ledger.now c.valid.ensures c.if-not-valid.false in
    let is = list_is (card c.args.s) c.args.ledger.now c.requires.whole valid c.count_at-count.ensures.0 c.record_size.ensures in
    let need = c.side_need-need.ensures _ c.place_list-placement.ensures ∙ ap (side_need_of (card c.args.s)) is in
    saves_0 c.requires c.args.target.now valid need (omega (arith, c.if-s-need.false, side_places_are (paper c.args.s))) c.saved_head_size.ensures
    (c.count_at-count.ensures.0 ∙ sym (listed (card c.args.s) c.args.ledger.now c.requires.whole valid))
    (full c.requires valid c.count_at-count.ensures.0 c.record_size.ensures) c.if-target-saved_head_size.false
    (c.write_snapshot.ensures ∙ ap (snapshot (paper c.args.s)) is)
