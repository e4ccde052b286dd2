-- `lookup::bursts::answer_all` meets its contract: each number is that of its key, by what was read of its counters.
use Rattle.std.proofs.Common.{refl, sym, ap, subst, ◌∙◌, ◌*◌, ◌<◌, length, arith}
use Rattle.memory.proofs.SliceLaws.{length_part}
use Rattle.settings.specs.Checked.{paper}
use Rattle.lookup.specs.Places.{KeyCountersFit}
use Rattle.lookup.specs.Bursts.{unpacked_of}
use Rattle.lookup.proofs.BurstLaws.{passed_none, passed_more, passed_all, key_within, number_from}
use Rattle.lookup.proofs.bursts.answer_all.Goals as goal

pub loop-i-init : goal.loop-i-init
loop-i-init c = passed_none

pub key_at-key-requires : goal.key_at-key-requires
key_at-key-requires c =
    key_within c.args.keys.now (length c.args.answers.now) _ c.width-width.result c.loop-i.i c.requires.keys_size c.width-width.ensures
    (omega (arith, c.loop-i.invariant.long))

pub chosen_number-requires : goal.chosen_number-requires
chosen_number-requires c =
    let i = c.loop-i.i in
    let here : i < length c.args.answers.now = omega (arith, c.loop-i.invariant.long) in
    let within = key_within c.args.keys.now (length c.args.answers.now) _ c.width-width.result i c.requires.keys_size c.width-width.ensures here in
    let is_choice = c.unpacked-choice.ensures ∙ ap unpacked_of (c.loop-i.invariant.left i (omega arith)) in
    record {
      checked = c.requires.checked;
      fits = subst (KeyCountersFit (paper c.args.s)) (sym is_choice) (c.requires.fits i here);
      wide = ap length c.key_at-key.ensures ∙ length_part (i * c.width-width.result) c.width-width.result c.args.keys.now within ∙ c.width-width.ensures;
    }

pub loop-i-preserved : goal.loop-i-preserved
loop-i-preserved c =
    passed_more c.loop-i.invariant _ (omega arith)
    (number_from (paper c.args.s) c.args.areas.buckets.now c.args.areas.side.now _ c.chosen_number.ensures refl c.key_at-key.ensures
    (c.unpacked-choice.ensures ∙ ap unpacked_of (c.loop-i.invariant.left c.loop-i.i (omega arith))))

pub returns : goal.returns
returns c = rw (← c.width-width.ensures) (passed_all c.loop-i.invariant (omega arith))
