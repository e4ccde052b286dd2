-- Laws of a line: the six fields one after another, and what a call shows.
use mathlib.Core.Path.{◌≡◌}
use mathlib.Core.List.{List, [], ◌∷◌, ◌++◌}
use Prim.Native.Nat.{ℕ}
use lib.ListN.{get_or}
use Rattle.theory.specs.Ledger.{Call, Reply, Step}
use Rattle.theory.specs.Lookup.{Answer}
use Rattle.theory.specs.Layout.{Areas}
use Rattle.theory.specs.Calls.{perform}
use Rattle.theory.specs.Flowrun.{flowrun_settings, decimal, line_text, call_in, printed, print_bytes}
use Rattle.std.proofs.Math.Option.{some}
use Rattle.text.specs.declared.Text.{Text}
use Rattle.text.specs.Writing.{Grows}
use Rattle.text.proofs.TextLaws.{grows_then}

-- the six fields of a line, each after the text before it
pub line_grows : (call letter : ℕ) (x : Answer) {t₀ t₁ t₂ t₃ t₄ t₅ t₆ : Text}
    → Grows (decimal call ++ (32 ∷ [])) t₀ t₁
    → Grows (letter ∷ 32 ∷ []) t₁ t₂
    → Grows (decimal x.number ++ (32 ∷ [])) t₂ t₃
    → Grows (decimal x.class ++ (32 ∷ [])) t₃ t₄
    → Grows (decimal x.buckets_read ++ (32 ∷ [])) t₄ t₅
    → Grows (decimal x.records_compared ++ (10 ∷ [])) t₅ t₆
    → Grows (line_text (record { call = call; letter = letter; answer = x })) t₀ t₆
unfolding line_text
line_grows call letter x a b c d e f = grows_then a (grows_then b (grows_then c (grows_then d (grows_then e f))))

-- what a call that bytes b ask for shows, with the areas after it
pub shown_call : (w n : ℕ) (b : List ℕ) (a : Areas) (c : Call) (r : Reply) (after : Areas) (x : Answer) → some c ≡ call_in b
    → ◌≡◌ {A = Step Areas} (record { reply = r; state = after }) (perform flowrun_settings w c a) → x ≡ printed c r
    → record { text = line_text (record { call = n; letter = get_or b 0 0; answer = x }); areas = after } ≡ print_bytes w n b a
unfolding print_bytes
shown_call w n b a c r after x e f g = rw (← e, ← f, g)
