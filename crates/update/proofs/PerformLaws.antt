-- Laws of the calls with their settings and lengths: each is `perform`'s.
use mathlib.Core.Path.{◌≡◌, refl, sym, ◌∙◌}
use mathlib.Core.Bool.{Bool, true, false, ◌&&◌}
use mathlib.Core.List.{List, [], ◌∷◌}
use Prim.Native.Nat.{ℕ}
use lib.Dec.{eqb}
use Rattle.theory.specs.Lists.{all}
use Rattle.theory.specs.Settings as plain
use Rattle.theory.specs.Settings.{Card, card_of, allowed, work_length}
use Rattle.theory.specs.Layout.{Areas, layout}
use Rattle.theory.specs.Lookup.{bare}
use Rattle.theory.specs.Ledger.{clear, Step, answered}
use Rattle.theory.specs.Calls.{refused_reply, update, call, all_lengths, lent_lengths, perform}
use Rattle.theory.specs.CallAreas.{replied}
use Rattle.settings.specs.declared.Settings.{Settings}
use Rattle.settings.specs.Checked.{card}
use Rattle.writing.proofs.JudgedLaws.{Permitted, Tested, tested_is}
use Rattle.update.specs.declared.editing.Edit.{Edit}
use Rattle.update.specs.declared.editing.Edit.TheVariants.{Insert, Replace, Remove}
use Rattle.update.specs.Editing.{edit_call}

-- ---- the three edits are calls of one shape
pub refused_is : (edit : Edit) (k : List ℕ) (x n : ℕ) → refused_reply (edit_call edit k x) n ≡ answered (bare n)
refused_is Insert k x n = refl
refused_is Replace k x n = refl
refused_is Remove k x n = refl

pub shape : (edit : Edit) (k : List ℕ) (x : ℕ) (c : Card) (w : ℕ) (a : Areas)
    → (lent_lengths c w (edit_call edit k x) a ≡ eqb w (work_length c) ∷ all_lengths c a) × (call c (edit_call edit k x) a ≡ update c k (edit_call edit k x) a)
unfolding lent_lengths call
shape Insert k x c w a = (refl, refl)
shape Replace k x c w a = (refl, refl)
shape Remove k x c w a = (refl, refl)

module _ (edit : Edit) (k : List ℕ) (x : ℕ) where
  pub performs_1 : (t : plain.Settings) (w : ℕ) (a : Areas) → allowed t ≡ false → replied 1 a ≡ perform t w (edit_call edit k x) a
  unfolding perform
  performs_1 t w a e = rw (e, refused_is edit k x 1)

  module _ {t : plain.Settings} {s : Settings} {w z : ℕ} {a : Areas} {right : Bool} (j : Tested t s w z a right) where
    judged : all (λ x. x) (lent_lengths (card_of t) w (edit_call edit k x) a) ≡ (eqb w z && right)
    judged = rw (shape edit k x (card_of t) w a).0 (sym (tested_is j))

    pub performs_2 : (eqb w z && right) ≡ false → replied 2 a ≡ perform t w (edit_call edit k x) a
    unfolding perform
    performs_2 e = rw (j.settings.ok, judged, e, refused_is edit k x 2)

    pub performs_on : (eqb w z && right) ≡ true → {r : Step Areas} → r ≡ update (card s) k (edit_call edit k x) a → r ≡ perform t w (edit_call edit k x) a
    unfolding perform
    performs_on e f = rw (j.settings.ok, judged, e, (shape edit k x (card_of t) w a).1) (f ∙ rw j.settings.same)

-- ---- clear
pub clears_1 : (t : plain.Settings) (a : Areas) → allowed t ≡ false → replied 1 a ≡ perform t 0 clear a
unfolding perform
clears_1 t a e = rw e

module _ {t : plain.Settings} {s : Settings} (p : Permitted t s) (a : Areas) {right : Bool} (told : right ≡ all (λ x. x) (all_lengths (card s) a)) where
  all_right : all (λ x. x) (all_lengths (card_of t) a) ≡ right
  all_right = rw (told, p.same)

  pub clears_2 : right ≡ false → replied 2 a ≡ perform t 0 clear a
  unfolding perform lent_lengths
  clears_2 e = rw (p.ok, all_right, e)

  pub clears : right ≡ true → {b : Areas} → b ≡ layout (card s) [] → replied 0 b ≡ perform t 0 clear a
  unfolding perform lent_lengths call
  clears e f = rw (p.ok, all_right, e, f, p.same)
