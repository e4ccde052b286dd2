-- `placing::choosing::choose_more` meets its contract: after i records these have chosen, and the first i places of choices hold their choices.
use mathlib.Core.Path.{◌≡◌, refl, ap, ◌∙◌}
use native.Mathlib.Omega.{arith}
use lib.ListN.{length, length-set}
use Rattle.std.proofs.Common.{ℕ, ◌+◌, ◌*◌, ◌/◌, ◌≤◌, List, Option}
use Rattle.std.specs.Option.{unwrap_or}
use Rattle.std.proofs.Math.Nat.{div-mul-le_self}
use Rattle.theory.specs.Settings.{record_size}
use Rattle.settings.specs.Checked.{card, paper}
use Rattle.settings.specs.declared.Settings.{Settings}
use Rattle.settings.proofs.Laws.{bounds}
use Rattle.memory.proofs.RecordPartLaws.{Sizes, key_inside, key_length, key_is}
use Rattle.placing.specs.Worked.{nth, choice_of}
use Rattle.placing.proofs.RecordCountLaws.{chose_none, chose_more, chose_all, chose_bound}
use Rattle.placing.proofs.WorkLaws.{kept_within, choice_below}
use Rattle.placing.proofs.ReadyLaws.{sound_card}
use Rattle.placing.proofs.choosing.choose_more.Goals as goal

-- the choice that is kept as a number, by the number of buckets as it was computed
kept_is : (choice : Option ℕ) (v m n : ℕ) → v ≡ unwrap_or choice m → m ≡ n → v ≡ unwrap_or choice n
kept_is choice v m n e f = e ∙ ap (unwrap_or choice) f

sizes : (s : Settings) {size width : ℕ} → size ≡ record_size (card s) → width ≡ (card s).width → Sizes (card s) size width
sizes s e f = record { size_is = e; width_is = f }

-- n choices are of the records that a part holds
choices_fit : (w n : ℕ) (part : List ℕ) → n ≡ length part / (w + 4) → n * (w + 4) ≤ length part
choices_fit w n part e = rw e (div-mul-le_self (length part) (w + 4))

pub loop-i-init : goal.loop-i-init
loop-i-init c = (refl, chose_none (card c.args.s) c.args.counts.now _ c.args.part.now c.args.choosers.now c.args.choices.now)

pub key_at-key-requires : goal.key_at-key-requires
key_at-key-requires c =
    key_inside (sizes c.args.s c.record_size-size.ensures c.width-width.ensures) _ _ c.args.part.now (choices_fit _ _ _ c.requires.places) c.loop-i-test.true

pub choose-choice-requires-clause-wide : goal.choose-choice-requires-clause-wide
choose-choice-requires-clause-wide c =
    ap length c.key_at-key.ensures
    ∙ key_length (sizes c.args.s c.record_size-size.ensures c.width-width.ensures) _ c.loop-i.i c.args.part.now (choices_fit _ _ _ c.requires.places)
    c.loop-i-test.true

pub overflow_cast-kept : goal.overflow_cast-kept
overflow_cast-kept c =
    let small =
    kept_within (card c.args.s) (sound_card _ _ c.requires.ready) (nth c.args.counts.now) _ _ _ _ c.choose-choice.ensures c.unwrap_or.ensures
    (omega (arith, c.buckets-m.ensures)) in
    omega (arith, small, (bounds (paper c.args.s) c.requires.ready.ok).buckets_most)

pub add_choice-requires-clause-within : goal.add_choice-requires-clause-within
add_choice-requires-clause-within c =
    rw (c.loop-i.auto.choosers, c.requires.halves)
    (choice_below (card c.args.s) (sound_card _ _ c.requires.ready) (nth c.args.counts.now) _ _ c.choose-choice.ensures)

pub add_choice-requires-clause-few : goal.add_choice-requires-clause-few
add_choice-requires-clause-few c =
    chose_bound (card c.args.s) c.args.counts.now _ _ _ _ _ _ _ c.loop-i.invariant.1 (omega (arith, c.requires.places)) c.requires.few

pub loop-i-preserved : goal.loop-i-preserved
loop-i-preserved c =
    let s = card c.args.s in
    let key_here = c.key_at-key.ensures ∙ key_is (sizes c.args.s c.record_size-size.ensures c.width-width.ensures) c.loop-i.i c.args.part.now in
    let choice_is = c.choose-choice.ensures ∙ ap (choice_of s (nth c.args.counts.now)) key_here in
    let kept = kept_is c.choose-choice.result _ _ s.buckets c.unwrap_or.ensures (omega (arith, c.buckets-m.ensures)) in
    let long = c.loop-i.invariant.0 in (
      simp length-set long,
      chose_more s c.args.counts.now _ _ _ _ _ c.loop-i.choices c.loop-i.invariant.1 _ choice_is _ c.add_choice.ensures _ kept (omega (arith, long)),
    )

pub returns : goal.returns
returns c =
    chose_all (card c.args.s) c.args.counts.now _ _ _ _ _ _ _ c.loop-i.invariant.1 (omega (arith, c.requires.places, c.loop-i.invariant.0))
    (omega (arith, c.requires.places, c.loop-i.invariant.0))
