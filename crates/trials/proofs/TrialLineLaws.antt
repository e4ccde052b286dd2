-- Laws of a trial's line: the eight fields one after another, and a line at the start of a buffer before those of the trials after it.
use mathlib.Core.Path.{◌≡◌, sym, ◌∙◌}
use mathlib.Core.List.{List, append-nil}
use Prim.Native.Nat.{ℕ, ◌+◌}
use native.Mathlib.Numerals.{add-one}
use native.Mathlib.Omega.{arith}
use lib.ListN.{take, length-append}
use lib.Seq.{take_at, drop_at, take_all}
use Rattle.theory.specs.Flowrun.{decimal, then_space, then_line_feed}
use Rattle.theory.specs.Trials.{Numbers, trial_answer, trial_line, trial_numbers, trial_text, trial_lines}
use Rattle.bench_load.specs.Loads.{load_of}
use Rattle.text.specs.declared.Text.{Text}
use Rattle.text.specs.Writing.{Writes, Grows}
use Rattle.text.proofs.TextLaws.{grows_then}
use Rattle.trials.specs.declared.Trials.{Trials}
use Rattle.trials.specs.Telling.{Tells}

pub line_grows : (number answer : ℕ) (x : Numbers) {t₀ t₁ t₂ t₃ t₄ t₅ t₆ t₇ t₈ : Text}
    → Grows (then_space (decimal number)) t₀ t₁
    → Grows (then_space (decimal answer)) t₁ t₂
    → Grows (then_space (decimal x.greatest_need)) t₂ t₃
    → Grows (then_space (decimal x.refused_6)) t₃ t₄
    → Grows (then_space (decimal x.refused_7)) t₄ t₅
    → Grows (then_space (decimal x.refused_8)) t₅ t₆
    → Grows (then_space (decimal x.refused_9)) t₆ t₇
    → Grows (then_line_feed (decimal x.compared)) t₇ t₈
    → Grows (trial_line number answer x) t₀ t₈
unfolding trial_line
line_grows number answer x a b c d e f g h =
    grows_then a (grows_then b (grows_then c (grows_then d (grows_then e (grows_then f (grows_then g h))))))

-- ---- what the next trial tells at the start of a buffer, and the lines of the rest after it
pub tells : (left rest : Trials) (settings : List ℕ) {answer : ℕ} {x : Numbers} {before after : List ℕ} {n : ℕ} → answer ≡ trial_answer settings
    → x ≡ trial_numbers (load_of left.load) settings → Writes (trial_line left.number answer x) before after n
    → rest.load ≡ left.load → rest.number ≡ left.number + 1 → Tells left settings before after n rest
unfolding trial_text trial_lines
tells left rest settings {after = after} {n = n} e f shown same next =
    let load = load_of left.load in
    let text = trial_text load left.number settings in
    let written = rw (e, f) at shown in
    let line : take n after ≡ text = rw written.1 (take_at text _ n (sym written.0)) in
    let one = next ∙ add-one left.number in
    record {
      line = written;
      inside = (rw (written.1, length-append) (omega (arith, written.0)), rw line written.0);
      whole = λ long k later. rw (line, same, one, take_at settings later 12 long, drop_at settings later 12 long);
      last = λ short. rw (line, take_all 12 settings short, append-nil);
      same = same;
      next = one;
    }
