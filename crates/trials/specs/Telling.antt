-- The trials that are left, and what telling the next one of them gives.
use Rattle.std.specs.Prelude.{◌≡◌, List, ◌++◌, ℕ, suc, ◌≤◌, ◌<◌, length, take}
use Rattle.theory.specs.Trials.{trial_text, trial_lines}
use Rattle.bench_load.specs.Loads.{load_of}
use Rattle.text.specs.Writing.{Writes}
use Rattle.io.specs.Counts.{IsPrefixLen}
use Rattle.trials.specs.declared.Trials.{Trials}
use Rattle.trials.specs.Playing.{Playable}

-- a load that can be played, and a number that can grow
pub record TrialsPlayable (left : Trials) : Type 0 where
  pub load : Playable left.load
  pub number : left.number < 4611686018427387904

-- the lines of k trials, the settings of which stand in bytes b
abbrev pub lines_left : Trials → ℕ → List ℕ → List ℕ
lines_left left k b = trial_lines (load_of left.load) left.number k b

-- the trial of 12 bytes, or of fewer that are left over: its line stands at the start of the buffer, n bytes of it, and the lines of the rest go on after it
pub record Tells (left : Trials) (settings before after : List ℕ) (n : ℕ) (rest : Trials) : Type 0 where
  pub line : Writes (trial_text (load_of left.load) left.number settings) before after n
  pub inside : IsPrefixLen n after
  pub whole : length settings ≡ 12 → (k : ℕ) (later : List ℕ) → take n after ++ lines_left rest k later ≡ lines_left left (suc k) (settings ++ later)
  pub last : length settings ≤ 12 → take n after ≡ lines_left left 1 settings
  pub same : rest.load ≡ left.load
  pub next : rest.number ≡ suc left.number
