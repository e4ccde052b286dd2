-- What a call that writes has judged before it begins: its settings, and the lengths of its work area and its five areas.
use mathlib.Core.Path.{◌≡◌, ap, ◌∙◌}
use mathlib.Core.Bool.{Bool, true, ◌&&◌}
use Prim.Native.Nat.{ℕ}
use lib.Dec.{eqb}
use borrow.Author.Tests.{eqb-true}
use Rattle.theory.specs.Lists.{all}
use Rattle.theory.specs.Settings as plain
use Rattle.theory.specs.Settings.{allowed, card_of, work_length}
use Rattle.theory.specs.Layout.{Areas}
use Rattle.theory.specs.Calls.{all_lengths}
use Rattle.theory.proofs.ListLaws.{and_left, and_right}
use Rattle.theory.proofs.CallLaws.{Sized}
use Rattle.settings.specs.declared.Settings.{Settings}
use Rattle.std.specs.Prelude.{Result, Ok}
use Rattle.memory.specs.declared.refusals.Refusal.{Refusal}
use Rattle.settings.specs.Checked.{paper, card, checked_of}
use Rattle.settings.proofs.Laws.{allowed_arm}
use Rattle.settings.proofs.LengthLaws.{sized_by}

-- the settings t are allowed, and the code has them as s
pub record Permitted (t : plain.Settings) (s : Settings) : Type 0 where
  pub ok : allowed t ≡ true
  pub same : paper s ≡ t

pub permitted : (t : plain.Settings) {r : Result Settings Refusal} {s : Settings} → r ≡ checked_of t → r ≡ Ok s → Permitted t s
permitted t answered arm = let both = allowed_arm t _ answered _ arm in record { ok = both.0; same = both.1 }

pub permits : {t : plain.Settings} {s : Settings} → Permitted t s → allowed (paper s) ≡ true
permits p = ap allowed p.same ∙ p.ok

-- the tests of the lengths: w words of work where z are asked, and whether the five areas are right
pub record Tested (t : plain.Settings) (s : Settings) (w z : ℕ) (a : Areas) (right : Bool) : Type 0 where
  pub settings : Permitted t s
  pub words : z ≡ work_length (card s)
  pub areas : right ≡ all (λ x. x) (all_lengths (card s) a)

module _ {t : plain.Settings} {s : Settings} {w z : ℕ} {a : Areas} {right : Bool} (j : Tested t s w z a right) where
  pub tested_is : (eqb w z && right) ≡ (eqb w (work_length (card_of t)) && all (λ x. x) (all_lengths (card_of t) a))
  tested_is = rw (j.words, j.areas, j.settings.same)

  module _ (passed : (eqb w z && right) ≡ true) where
    pub words_right : w ≡ work_length (card s)
    words_right = eqb-true w z (and_left (eqb w z) right passed) ∙ j.words

    pub areas_right : Sized (card s) a
    areas_right = let All_right = and_right (eqb w z) right passed in sized_by (card s) a (rw j.areas at All_right)
