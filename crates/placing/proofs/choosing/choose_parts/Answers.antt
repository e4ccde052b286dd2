-- `placing::choosing::choose_parts` meets its contract: three lists that choose one after the other choose as the three in a row.
use mathlib.Core.Path.{◌∙◌}
use native.Mathlib.Omega.{arith}
use lib.ListN.{length}
use Rattle.theory.specs.Settings.{record_size}
use Rattle.theory.proofs.ByteLaws.{length_records}
use Rattle.settings.specs.Checked.{card}
use Rattle.placing.specs.Worked.{held}
use Rattle.placing.proofs.PartLaws.{held_is}
use Rattle.placing.proofs.RecordCountLaws.{zero, chose_append, chose_few}
use Rattle.placing.proofs.choosing.choose_parts.Goals as goal

pub nonzero_div-parts : goal.nonzero_div-parts
unfolding record_size
nonzero_div-parts c = omega (arith, c.record_size-size.ensures)

pub nonzero_div-parts-2 : goal.nonzero_div-parts-2
unfolding record_size
nonzero_div-parts-2 c = omega (arith, c.record_size-size.ensures)

pub split_at_mut-before-requires : goal.split_at_mut-before-requires
split_at_mut-before-requires c =
    let here = held_is (card c.args.s) c.record_size-size.ensures c.args.parts.before.now in
    omega (arith, here, c.requires.places)

pub split_at_mut-between-requires : goal.split_at_mut-between-requires
split_at_mut-between-requires c =
    let first = held_is (card c.args.s) c.record_size-size.ensures c.args.parts.before.now in
    let here = held_is (card c.args.s) c.record_size-size.ensures c.args.parts.between.now in
    omega (arith, first, here, c.requires.places, c.split_at_mut-before.ensures.back_len)

pub choose_more-requires : goal.choose_more-requires
choose_more-requires c =
    let p = c.requires in
    record {
      ready = p.ready;
      buckets = p.buckets;
      halves = c.fill.ensures.len ∙ p.halves;
      few = λ b. omega (arith, zero (length c.args.choosers.now) c.fill.ensures.after b, p.few);
      places = c.split_at_mut-before.ensures.front_len ∙ held_is (card c.args.s) c.record_size-size.ensures c.args.parts.before.now;
    }

pub choose_more-requires-2 : goal.choose_more-requires-2
choose_more-requires-2 c =
    let p = c.requires in
    let w = (card c.args.s).width in
    let first = chose_few _ _ _ _ _ _ c.choose_more.ensures in
    let long = length_records w (held w c.args.parts.before.now) c.args.parts.before.now in
    record {
      ready = p.ready;
      buckets = p.buckets;
      halves = c.choose_more.auto.choosers ∙ c.fill.ensures.len ∙ p.halves;
      few = λ b. omega (arith, zero (length c.args.choosers.now) c.fill.ensures.after b, first b, long, p.few);
      places = c.split_at_mut-between.ensures.front_len ∙ held_is (card c.args.s) c.record_size-size.ensures c.args.parts.between.now;
    }

pub choose_more-requires-3 : goal.choose_more-requires-3
choose_more-requires-3 c =
    let p = c.requires in
    let w = (card c.args.s).width in
    let first = chose_few _ _ _ _ _ _ c.choose_more.ensures in
    let second = chose_few _ _ _ _ _ _ c.choose_more-2.ensures in
    let long = length_records w (held w c.args.parts.before.now) c.args.parts.before.now in
    let long_2 = length_records w (held w c.args.parts.between.now) c.args.parts.between.now in
    let held_first = held_is (card c.args.s) c.record_size-size.ensures c.args.parts.before.now in
    let held_second = held_is (card c.args.s) c.record_size-size.ensures c.args.parts.between.now in
    record {
      ready = p.ready;
      buckets = p.buckets;
      halves = c.choose_more-2.auto.choosers ∙ c.choose_more.auto.choosers ∙ c.fill.ensures.len ∙ p.halves;
      few = λ b. omega (arith, zero (length c.args.choosers.now) c.fill.ensures.after b, first b, long, second b, long_2, p.few);
      places =
          omega (arith, held_first, held_second, p.places, c.split_at_mut-before.ensures.back_len, c.split_at_mut-between.ensures.back_len);
    }

pub returns : goal.returns
returns c =
    let chose =
    chose_append _ _ _ _ _ _ _ _ _ c.choose_more.ensures (chose_append _ _ _ _ _ _ _ _ _ c.choose_more-2.ensures c.choose_more-3.ensures) in
    record { choosers = λ b. omega (arith, zero (length c.args.choosers.now) c.fill.ensures.after b, chose.more b); kept = chose.kept }
