-- Settings in their ranges ask what the hashes and the numbers need; what is written is what the definition gives.
use Rattle.std.proofs.Common.{◌≡◌, Ok, refl, ap, ◌∙◌, arith}
use Rattle.theory.specs.Settings as plain
use Rattle.theory.specs.Settings.{allowed}
use Rattle.theory.proofs.SettingsLaws.{Ranges, ranges}
use Rattle.settings.specs.declared.Settings.{Settings}
use Rattle.settings.specs.Checked.{paper, checked_of}
use Rattle.settings.proofs.Laws.{allowed_arm, allowed_settings, key_width}
use Rattle.card.proofs.DoorLaws.{key_buckets_written}
use Rattle.card.proofs.give_buckets.Goals as goal

in_ranges : (t : plain.Settings) (s : Settings) → Ok s ≡ checked_of t → Ranges (paper s)
in_ranges t s e = ranges (paper s) (allowed_settings t (Ok s) e s refl)

pub h_rows-h-requires : goal.h_rows-h-requires
h_rows-h-requires c =
    key_width (paper c.in_ok-s.s) (allowed_settings _ _ c.in_ok-s.ensures c.in_ok-s.s refl) (c.if-key-width.false ∙ c.width.ensures)

pub first_hashes-requires : goal.first_hashes-requires
first_hashes-requires c = (in_ranges _ _ c.in_ok-s.ensures).p_high

pub numbers_of-found-requires-clause-power : goal.numbers_of-found-requires-clause-power
numbers_of-found-requires-clause-power c = (in_ranges _ _ c.in_ok-s.ensures).p_high

pub numbers_of-found-requires-clause-few : goal.numbers_of-found-requires-clause-few
numbers_of-found-requires-clause-few c = let here : Ranges (paper c.in_ok-s.s) = in_ranges _ _ c.in_ok-s.ensures in omega arith

pub returns : goal.returns
returns c =
    let told = allowed_arm _ _ c.in_ok-s.ensures c.in_ok-s.s refl in
    rw (c.copy_from_slice.ensures.after, c.first_hashes.ensures, c.copy_from_slice-2.ensures.after, c.counted.ensures)
    (rw (c.numbers_of-found.ensures.is, c.h_rows-h.ensures, ← told.1)
    (key_buckets_written c.in_ok-s.s c.args.key.now _ _ (ap allowed told.1 ∙ told.0) c.if-hashes-ne4.false c.if-numbers-ne5.false
    (c.if-key-width.false ∙ c.width.ensures)))
