-- Laws of writing the new list: what stands in the edited ledger is that list, and the five areas are its layout.
use mathlib.Core.Path.{◌≡◌, sym, ap, ◌∙◌}
use mathlib.Core.Bool.{false}
use mathlib.Core.List.{List, [], ◌∷◌}
use Prim.Native.Nat.{ℕ, ◌+◌, ◌≤◌}
use native.Mathlib.Omega.{arith}
use borrow.Author.Tests.{eq-eqb, ne_eqb}
use lib.ListN.{length, take}
use Rattle.theory.specs.Records.{Record}
use Rattle.theory.specs.Settings.{Card}
use Rattle.theory.specs.Layout.{Areas, counted_places, layout}
use Rattle.theory.proofs.ListLaws.{by_test, All, all_take, all_drop, all_append}
use Rattle.writing.proofs.LaidLedgerLaws.{LaidLedger}
use Rattle.update.specs.declared.editing.Edit.{Edit}
use Rattle.update.specs.declared.editing.EditCall.{EditCall}
use Rattle.update.specs.declared.judging.Plan.{Plan}
use Rattle.update.specs.Editing.{edited, brings, leaves_out, judged_number, edited_list, Planned}
use Rattle.settings.specs.declared.Settings.{Settings}
use Rattle.settings.specs.Checked.{card}
use Rattle.theory.specs.Ledger.{Call, key_wrong, next, refusal}
use Rattle.theory.specs.Calls.{ledger_records, ledger_invalid, update}
use Rattle.theory.specs.CallAreas.{replied}
use Rattle.update.proofs.PlanLaws.{length_edited}

-- ---- what holds of each record of a list and of the call's holds of each that an edit makes
pub all_edited : (P : Record → Type 0) (edit : Edit) (at : ℕ) (x : Record) (l : List Record) → P x → All P l → All P (edited edit at x l)
all_edited P edit at x l p a =
    let after = all_append P (take (brings edit) (x ∷ [])) _ (all_take P (brings edit) (x ∷ []) (p, tt)) (all_drop P (at + leaves_out edit) l a) in
    all_append P (take at l) _ (all_take P at l a) after

-- ---- what a plan says of the list that it makes
module _ {s : Settings} {call : EditCall} {ledger : List ℕ} {plan : Plan} (p : Planned s call ledger plan) where
  abbrev flows : List Record
  flows = ledger_records (card s) ledger

  abbrev new : Record
  new = record { key = call.key.now; class = call.class }

  pub plan_room : length flows + brings call.edit ≤ (card s).capacity + leaves_out call.edit
  plan_room =
      let few : length (edited call.edit plan.at new flows) ≤ (card s).capacity = rw p.list at p.room in
      omega (arith, few, length_edited call.edit plan.at new flows p.place, p.place)

  -- once it is in the ledger area
  pub plan_laid : {a : List ℕ} → a ≡ counted_places (card s) (card s).capacity (edited call.edit plan.at new flows)
      → LaidLedger s (edited_list s call ledger) a plan.placement
  plan_laid is =
      record { fit = p.fit; few = p.room; is = is ∙ ap (counted_places (card s) (card s).capacity) (sym p.list); placed = p.placed }

-- ---- the call: 3, what judging refuses, or the layout of the new list
module _ (c : Card) (k : List ℕ) (call : Call) (a : Areas) where
  pub updated_3 : (length k ≡ c.width → ⊥) → replied 3 a ≡ update c k call a
  unfolding update key_wrong
  updated_3 n = rw (ne_eqb (length k) c.width n)

  module _ (wide : length k ≡ c.width) where
    pub updated_refused : {n : ℕ} → n ≡ judged_number c call a.ledger → (n ≡ 0 → ⊥) → replied n a ≡ update c k call a
    unfolding update key_wrong judged_number
    updated_refused {n} e some =
        let same = eq-eqb (length k) c.width wide in
        by_test (ledger_invalid c a.ledger) (λ i. let q : n ≡ 4 = rw i at e in rw (same, i, q))
        (λ i. let q : n ≡ refusal c call (ledger_records c a.ledger) = rw i at e in rw (same, i, ← q, ne_eqb n 0 some))

    pub updated_made : judged_number c call a.ledger ≡ 0 → ledger_invalid c a.ledger ≡ false → {b : Areas}
        → b ≡ layout c (next c call (ledger_records c a.ledger)) → replied 0 b ≡ update c k call a
    unfolding update key_wrong judged_number
    updated_made e i is =
        let none : refusal c call (ledger_records c a.ledger) ≡ 0 = rw i at e in
        rw (eq-eqb (length k) c.width wide, i, eq-eqb (refusal c call (ledger_records c a.ledger)) 0 none, is)
