-- Laws of a trial's answer: what that its bytes are judged to be says of its answer and its numbers; and of the load.
use mathlib.Core.Path.{◌≡◌, refl}
use mathlib.Core.Bool.{Bool, true, false, cond, not, ◌||◌}
use mathlib.Core.List.{List, []}
use mathlib.Core.Option.{none, some}
use Prim.Native.Nat.{ℕ, ◌≤◌, ◌<◌, ◌^◌}
use native.Mathlib.Omega.{arith}
use lib.Dec.{ltb}
use lib.ListN.{length}
use borrow.Author.Tests.{lt-ltb, le-ltb}
use Rattle.std.specs.Prelude.{Result, Ok, Err}
use Rattle.theory.specs.Settings.{allowed, card_of}
use Rattle.theory.specs.BenchLoad.{load_calls, BenchLoad, load_in, load_wrong, load_asked}
use Rattle.theory.specs.Trials.{no_numbers, tried, trial_settings, area_above, trial_answer, trial_numbers, trial_load}
use Rattle.memory.specs.Refusals.{number_of}
use Rattle.memory.specs.declared.refusals.Refusal.{Refusal}
use Rattle.memory.specs.declared.refusals.Refusal.TheVariants.{SettingOutOfRange, WrongAreaLength, UnknownCall}
use Rattle.settings.specs.declared.Settings.{Settings}
use Rattle.settings.specs.Checked.{paper, card, code}
use Rattle.trials.specs.Data.{judged_trial}

-- a refusal is the trial's answer, and zeros follow; else the settings are allowed and each area has room in 64 KiB
pub record Taken (b : List ℕ) (s : Settings) : Type 0 where
  pub answered : 0 ≡ trial_answer b
  pub ok : allowed (paper s) ≡ true
  pub within : area_above (card s) ≡ false
  pub same : paper s ≡ trial_settings b

module _ (b : List ℕ) where
  abbrev by : Bool → Bool → Bool → Result Settings Refusal
  by short ok above =
      cond short (Err UnknownCall) (cond (not ok) (Err SettingOutOfRange) (cond above (Err WrongAreaLength) (Ok (code (trial_settings b)))))

  pub refused_tells : (load : BenchLoad) (e : Refusal) → Err e ≡ judged_trial b → (number_of e ≡ trial_answer b) × (no_numbers ≡ trial_numbers load b)
  unfolding judged_trial trial_answer trial_numbers
  refused_tells load e arm = go (ltb (length b) 12) (allowed (trial_settings b)) (area_above (card_of (trial_settings b))) refl refl refl arm
    where
      go : (x y z : Bool) → ltb (length b) 12 ≡ x → allowed (trial_settings b) ≡ y → area_above (card_of (trial_settings b)) ≡ z → Err e ≡ by x y z
          → (number_of e ≡ trial_answer b) × (no_numbers ≡ trial_numbers load b)
      go true y z f g h q = let same : e ≡ UnknownCall = cc in rw (same, f) (refl, refl)
      go false false z f g h q = let same : e ≡ SettingOutOfRange = cc in rw (same, f, g) (refl, refl)
      go false true true f g h q = let same : e ≡ WrongAreaLength = cc in rw (same, f, g, h) (refl, refl)
      go false true false f g h q = cc

  pub ready_tells : (s : Settings) → Ok s ≡ judged_trial b → Taken b s
  unfolding judged_trial trial_answer
  ready_tells s arm = go (ltb (length b) 12) (allowed (trial_settings b)) (area_above (card_of (trial_settings b))) refl refl refl arm
    where
      go : (x y z : Bool) → ltb (length b) 12 ≡ x → allowed (trial_settings b) ≡ y → area_above (card_of (trial_settings b)) ≡ z → Ok s ≡ by x y z
          → Taken b s
      go true y z f g h q = cc
      go false false z f g h q = cc
      go false true true f g h q = cc
      go false true false f g h q =
          let same : s ≡ code (trial_settings b) = cc in
          record { answered = rw (f, g, h); ok = rw same g; within = rw same h; same = rw same }

  pub taken_numbers : (load : BenchLoad) (s : Settings) → Taken b s
      → tried (card s) (load_calls load.flows load.count load.generator) [] no_numbers ≡ trial_numbers load b
  unfolding trial_numbers
  taken_numbers load s t = rw (← t.answered, ← t.same)

-- ---- the load: 15 for bench_load's reasons, and for a count above 2^32
module _ (b : List ℕ) where
  pub no_load : load_asked b ≡ none → none ≡ trial_load b
  unfolding trial_load load_asked
  no_load e = go (load_wrong b) refl e
    where
      go : (x : Bool) → load_wrong b ≡ x → cond x none (some (load_in b)) ≡ none
          → none ≡ cond (load_wrong b || ltb (2 ^ 32) (load_in b).count) none (some (load_in b))
      go true f e = rw f
      go false f e = let same : ◌≡◌ {A = ℕ} 0 1 = cc in absurd (omega arith)

  module _ (load : BenchLoad) (asked : load_asked b ≡ some load) where
    is_load : (load_wrong b ≡ false) × (load_in b ≡ load)
    unfolding load_asked
    is_load = go (load_wrong b) refl asked
      where
        go : (x : Bool) → load_wrong b ≡ x → cond x none (some (load_in b)) ≡ some load → (load_wrong b ≡ false) × (load_in b ≡ load)
        go true f e = let same : ◌≡◌ {A = ℕ} 0 1 = cc in absurd (omega arith)
        go false f e = (f, cc)

    pub too_many : 4294967296 < load.count → none ≡ trial_load b
    unfolding trial_load
    too_many h = rw (is_load.0, is_load.1, lt-ltb 4294967296 load.count h)

    pub load_taken : load.count ≤ 4294967296 → some load ≡ trial_load b
    unfolding trial_load
    load_taken h = rw (is_load.0, is_load.1, le-ltb 4294967296 load.count h)
