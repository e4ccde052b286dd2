-- A trial's numbers and what its settings are judged to be, as the code holds them.
use Rattle.std.specs.Prelude.{cond, not, List, ℕ, ◌+◌, ◌≤◌, ◌<◌, ltb, length, Result, Ok, Err}
use Rattle.theory.specs.Settings.{allowed, card_of}
use Rattle.theory.specs.Trials as plain
use Rattle.theory.specs.Trials.{trial_settings, area_above}
use Rattle.memory.specs.declared.refusals.Refusal.{Refusal}
use Rattle.memory.specs.declared.refusals.Refusal.TheVariants.{SettingOutOfRange, WrongAreaLength, UnknownCall}
use Rattle.settings.specs.declared.Settings.{Settings}
use Rattle.settings.specs.Checked.{code}
use Rattle.trials.specs.declared.numbers.Numbers.{Numbers}

abbrev pub numbers_of : Numbers → plain.Numbers
numbers_of x =
    record {
      greatest_need = x.greatest_need;
      refused_6 = x.refused_6;
      refused_7 = x.refused_7;
      refused_8 = x.refused_8;
      refused_9 = x.refused_9;
      compared = x.compared;
    }

-- the numbers that a line shows: zeros where the trial is refused
abbrev pub numbers_told : Result Numbers Refusal → plain.Numbers
numbers_told (Ok x) = numbers_of x
numbers_told (Err e) = plain.no_numbers

-- numbers to which a call can still add: one to a refusal, and 32 bits of records compared
pub record Growing (x : plain.Numbers) : Type 0 where
  pub refused_6 : x.refused_6 < 4294967296
  pub refused_7 : x.refused_7 < 4294967296
  pub refused_8 : x.refused_8 < 4294967296
  pub refused_9 : x.refused_9 < 4294967296
  pub compared : x.compared + 4294967295 < 18446744073709551616

-- a call has added no more than that
pub record Grown (x y : plain.Numbers) : Type 0 where
  pub refused_6 : y.refused_6 ≤ x.refused_6 + 1
  pub refused_7 : y.refused_7 ≤ x.refused_7 + 1
  pub refused_8 : y.refused_8 ≤ x.refused_8 + 1
  pub refused_9 : y.refused_9 ≤ x.refused_9 + 1
  pub compared : y.compared ≤ x.compared + 4294967295

-- what the bytes of a trial are judged to be: refused with `trial_answer`, else its settings
unfoldable pub judged_trial : List ℕ → Result Settings Refusal
judged_trial b =
    cond (ltb (length b) 12) (Err UnknownCall)
    (cond (not (allowed (trial_settings b))) (Err SettingOutOfRange)
    (cond (area_above (card_of (trial_settings b))) (Err WrongAreaLength) (Ok (code (trial_settings b)))))
