-- the ledger's rules, then the place of the key, then the side need of the list that the edit would make
use Rattle.std.proofs.Common.{◌≡◌, ℕ, ◌-◌, ◌≤◌, List, length, take, drop, Bool, true, false, not, arith, sym, ap, ◌∙◌}
use Rattle.std.proofs.lemmas.Result.{err_from_is_err_and}
use Rattle.std.specs.Prelude.{Result}
use Rattle.theory.proofs.ListLaws.{negated_false, negated_true}
use Rattle.theory.specs.Settings.{Card}
use Rattle.theory.specs.Records.{Record, count_of, records}
use Rattle.theory.specs.Calls.{ledger_records, ledger_invalid}
use Rattle.theory.proofs.SettingsLaws.{ranges, sound}
use Rattle.theory.proofs.ByteLaws.{Fit, length_record}
use Rattle.memory.proofs.RefusalLaws.{refused_number}
use Rattle.settings.specs.declared.Settings.{Settings}
use Rattle.settings.specs.Checked.{paper, card}
use Rattle.settings.proofs.Laws.{capacity_is, side_places_are}
use Rattle.ledger.specs.Spots.{SpotOf}
use Rattle.ledger.proofs.LedgerLaws.{has_count, records_are}
use Rattle.ledger.proofs.SpotLaws.{search_room, search_rises, ledger_spot}
use Rattle.ledger.proofs.LedgerEditLaws.{few, listed, records_fit_width}
use Rattle.placing.specs.declared.Placement.{Placement}
use Rattle.placing.specs.Worked.{Placed}
use Rattle.placing.proofs.WorkLaws.{placed_within}
use Rattle.update.specs.declared.editing.EditCall.{EditCall}
use Rattle.update.specs.Editing.{Judging, by_list, is_held, place_in, edited, edited_at}
use Rattle.update.proofs.PlanLaws.{Found, Accepted, ledger_room, place_fits, place_listed, makes, made_length, made_few}
use Rattle.update.proofs.PlanLaws.{judged_4, judged_by_list, judged_9, judged_0}
use Rattle.memory.proofs.SliceLaws.{bytes_of}
use Rattle.update.proofs.WriteLaws.{all_edited}
use Rattle.update.proofs.judging.judge.Goals as goal

-- the ledger was judged to be within its rules
within_rules : (c : Card) (ledger : List ℕ) {judged : Bool} → judged ≡ not (ledger_invalid c ledger) → judged ≡ true → ledger_invalid c ledger ≡ false
within_rules c ledger answered told = negated_true _ _ answered told

module _ {s : Settings} {table ledger : List ℕ} {call : EditCall} {work kept : List ℕ} (asked : Judging s table ledger call work kept) where
  -- the record of the call
  abbrev new : Record
  new = record { key = call.key.now; class = call.class }

  new_fits : Fit (card s).width new
  new_fits = record { wide = asked.call.wide; small = asked.call.small }

  -- ---- the ledger is within its rules, and has n records
  module _ (valid : ledger_invalid (card s) ledger ≡ false) {n : ℕ} (count : n ≡ count_of ledger) where
    n_few : n ≤ (card s).capacity
    n_few = omega (arith, few (card s) ledger asked.whole valid, count)

    -- the place of the key is found, and then the list refuses nothing
    found : (spot : Result ℕ ℕ) → SpotOf (records (length call.key.now) n (take (length ledger - 2) (drop 2 ledger))) call.key.now spot
        → Found (paper s) call.edit call.key.now call.class ledger spot n
    found spot of =
        record {
          rules = valid;
          wide = asked.call.wide;
          of = ledger_spot _ _ asked.whole valid _ count _ asked.call.wide _ of;
          count = count ∙ sym (listed _ _ asked.whole valid);
        }

    accepted : (spot : Result ℕ ℕ) → SpotOf (records (length call.key.now) n (take (length ledger - 2) (drop 2 ledger))) call.key.now spot
        → by_list (paper s) call.edit (is_held spot) n ≡ 0 → Accepted (paper s) call.edit call.key.now call.class ledger spot n
    accepted spot of none = record { found = found spot of; none = none }

  -- what placing says of the first n records of the ledger area, it says of its list
  placed : {n at : ℕ} (spot : Result ℕ ℕ) {p : Placement} → n ≡ count_of ledger → at ≡ place_in spot
      → Placed (card s) (edited_at s call.edit at new n ledger) p → Placed (card s) (edited call.edit (place_in spot) new (ledger_records (card s) ledger)) p
  placed {n} spot count place p = rw (records_are (card s) ledger n count, place) at p

pub returns-then-not-valid-clause-number : goal.returns-then-not-valid-clause-number
returns-then-not-valid-clause-number c = sym (judged_4 _ _ _ (negated_false c.valid.result _ c.valid.ensures c.if-not-valid.true))

pub count_at-count-requires : goal.count_at-count-requires
count_at-count-requires c = has_count (card c.args.s) c.args.ledger.now c.requires.whole

pub slice_bounds-find_spot-count : goal.slice_bounds-find_spot-count
slice_bounds-find_spot-count c = has_count (card c.args.s) c.args.ledger.now c.requires.whole

pub slice_bounds-find_spot-start : goal.slice_bounds-find_spot-start
slice_bounds-find_spot-start c = has_count (card c.args.s) c.args.ledger.now c.requires.whole

pub find_spot-spot-requires-clause-room : goal.find_spot-spot-requires-clause-room
find_spot-spot-requires-clause-room c =
    let valid = within_rules (card c.args.s) c.args.ledger.now c.valid.ensures c.if-not-valid.false in
    search_room _ _ c.requires.whole valid _ c.count_at-count.ensures.0 c.args.call.key.now c.requires.call.wide

pub find_spot-spot-requires-clause-rising : goal.find_spot-spot-requires-clause-rising
find_spot-spot-requires-clause-rising c =
    let valid = within_rules (card c.args.s) c.args.ledger.now c.valid.ensures c.if-not-valid.false in
    search_rises _ _ c.requires.whole valid _ c.count_at-count.ensures.0 c.args.call.key.now c.requires.call.wide

pub returns-in_err-at-clause-number : goal.returns-in_err-at-clause-number
returns-in_err-at-clause-number c =
    let valid = within_rules (card c.args.s) c.args.ledger.now c.valid.ensures c.if-not-valid.false in
    let known = found c.requires valid c.count_at-count.ensures.0 c.find_spot-spot.result c.find_spot-spot.ensures in
    let p = err_from_is_err_and c.from_residual.result c.from_residual.ensures.1 in
    let by_list = c.in_err-at.ensures.number in
    rw (p.1, p.2) (by_list ∙ sym (judged_by_list known (λ e. refused_number _ (by_list ∙ e))))

pub place_new-placement-requires : goal.place_new-placement-requires
place_new-placement-requires c =
    let valid = within_rules (card c.args.s) c.args.ledger.now c.valid.ensures c.if-not-valid.false in
    let count = c.count_at-count.ensures.0 in
    let accepted = accepted c.requires valid count c.find_spot-spot.result c.find_spot-spot.ensures (sym c.in_ok-at.ensures.number) in
    let t = paper c.args.s in
    let n_few = n_few c.requires valid count in
    let most = made_few accepted (omega (arith, n_few, capacity_is t)) in
    record {
      ready = c.requires.ready;
      words = c.requires.words;
      choices = omega (arith, made_length accepted, most, capacity_is t, c.requires.choices);
      room = ledger_room _ c.args.ledger.now c.requires.whole _ n_few;
      few = omega (arith, n_few, capacity_is t, (ranges t c.requires.ready.ok).capacity_high);
      place = rw c.in_ok-at.ensures.place (place_fits accepted);
      wide = ap length c.requires.call.written ∙ length_record _ _ (new_fits c.requires);
    }

pub side_need-need-requires-clause-within : goal.side_need-need-requires-clause-within
side_need-need-requires-clause-within c =
    placed_within (c.place_new-placement.ensures (new c.requires) (sym c.requires.call.written) (new_fits c.requires))
    (sound (paper c.args.s) c.requires.ready.ok)

-- the new list is placed, so the side need is its own
pub returns-then-s-need-clause-number : goal.returns-then-s-need-clause-number
returns-then-s-need-clause-number c =
    let valid = within_rules (card c.args.s) c.args.ledger.now c.valid.ensures c.if-not-valid.false in
    let count = c.count_at-count.ensures.0 in
    let accepted = accepted c.requires valid count c.find_spot-spot.result c.find_spot-spot.ensures (sym c.in_ok-at.ensures.number) in
    let placed = placed c.requires c.find_spot-spot.result count c.in_ok-at.ensures.place
    (c.place_new-placement.ensures (new c.requires) (sym c.requires.call.written) (new_fits c.requires)) in
    sym (judged_9 accepted _ (c.side_need-need.ensures _ placed) (omega (arith, c.if-s-need.true, side_places_are (paper c.args.s))))

pub returns-clause-number : goal.returns-clause-number
returns-clause-number c =
    let valid = within_rules (card c.args.s) c.args.ledger.now c.valid.ensures c.if-not-valid.false in
    let count = c.count_at-count.ensures.0 in
    let accepted = accepted c.requires valid count c.find_spot-spot.result c.find_spot-spot.ensures (sym c.in_ok-at.ensures.number) in
    let placed = placed c.requires c.find_spot-spot.result count c.in_ok-at.ensures.place
    (c.place_new-placement.ensures (new c.requires) (sym c.requires.call.written) (new_fits c.requires)) in
    sym (judged_0 accepted _ (c.side_need-need.ensures _ placed) (omega (arith, c.if-s-need.false, side_places_are (paper c.args.s))))

pub returns-clause-planned : goal.returns-clause-planned
returns-clause-planned c =
    let valid = within_rules (card c.args.s) c.args.ledger.now c.valid.ensures c.if-not-valid.false in
    let count = c.count_at-count.ensures.0 in
    let accepted = accepted c.requires valid count c.find_spot-spot.result c.find_spot-spot.ensures (sym c.in_ok-at.ensures.number) in
    let placed = placed c.requires c.find_spot-spot.result count c.in_ok-at.ensures.place
    (c.place_new-placement.ensures (new c.requires) (sym c.requires.call.written) (new_fits c.requires)) in
    let n_few = n_few c.requires valid count in
    let fewer = made_few accepted (omega (arith, n_few, capacity_is (paper c.args.s))) in
    record {
      valid = valid;
      place = rw c.in_ok-at.ensures.place (place_listed accepted);
      room = omega (arith, fewer, capacity_is (paper c.args.s));
      list = rw c.in_ok-at.ensures.place (makes accepted);
      fit =
          rw (makes accepted)
          (all_edited (Fit (card c.args.s).width) c.args.call.edit _ (new c.requires) _ (new_fits c.requires)
          (records_fit_width (card c.args.s) c.args.ledger.now c.requires.whole valid (bytes_of c.args.ledger.now c.type_inv.ledger)));
      placed = rw (makes accepted) placed;
      need = c.side_need-need.ensures _ (rw (makes accepted) placed);
      enough = omega (arith, c.if-s-need.false, side_places_are (paper c.args.s));
    }
