-- Laws of a call on settings and areas that are judged already: what each gives is the call's, and what it asks is at hand; then `perform`'s.
use mathlib.Core.Path.{◌≡◌, refl, sym, ◌∙◌}
use mathlib.Core.Bool.{Bool, true, false, cond, not}
use mathlib.Core.List.{List, []}
use Prim.Native.Nat.{ℕ}
use lib.Dec.{eqb}
use lib.ListN.{length}
use borrow.Author.Tests.{eqb-true, eq-eqb}
use Rattle.std.specs.Prelude.{Result, Ok, Err}
use Rattle.theory.specs.Lists.{all}
use Rattle.theory.specs.Settings as plain
use Rattle.theory.specs.Settings.{Card, card_of, allowed, ledger_length, work_length}
use Rattle.theory.specs.Layout.{Areas, layout}
use Rattle.theory.specs.Lookup.{Answer}
use Rattle.theory.specs.Ledger.{Call, clear, add, change, remove, search, fetch, tally, Reply, Totals, Step, answered, totalled}
use Rattle.theory.specs.Calls.{refused_reply, stopped, update, tally_areas, call, lookup_lengths, lent_lengths, perform}
use Rattle.theory.specs.CallAreas.{replied}
use Rattle.theory.proofs.ListLaws.{and_left, and_right}
use Rattle.theory.proofs.CallLaws.{Sized}
use Rattle.theory.proofs.Demands.{lookup_lengths_right, all_lengths_right}
use Rattle.memory.specs.Refusals.{number_of}
use Rattle.memory.specs.declared.refusals.Refusal.{Refusal}
use Rattle.memory.specs.declared.refusals.Refusal.TheVariants.{SettingOutOfRange, WrongAreaLength}
use Rattle.settings.specs.declared.Settings.{Settings}
use Rattle.settings.specs.Checked.{paper, card, code}
use Rattle.settings.specs.Areas.{lookup_part}
use Rattle.settings.proofs.LengthLaws.{sized_by}
use Rattle.lookup.specs.Places.{CheckedLookup}
use Rattle.lookup.proofs.JudgeLaws.{checked_lookup}
use Rattle.placing.specs.Ready.{Ready}
use Rattle.update.specs.declared.editing.Edit.{Edit}
use Rattle.update.specs.declared.editing.Edit.TheVariants.{Insert, Replace, Remove}
use Rattle.update.specs.Editing.{edit_call, Updating}
use Rattle.update.proofs.PerformLaws.{shape}
use Rattle.calls.specs.Data.{is_update}
use Rattle.calls.specs.Calling.{searched, judged, Callable}

-- the lookup areas alone are judged as all areas are
pub lookup_right : (s : Card) (b a : Areas) → b ≡ lookup_part a → all (λ x. x) (lookup_lengths s b) ≡ all (λ x. x) (lookup_lengths s a)
unfolding lookup_lengths
lookup_right s b a e = rw e

-- ---- what each call gives
module _ {c : Call} (s : Card) (a : Areas) where
  pub clear_gives : c ≡ clear → {b : Areas} → b ≡ layout s [] → replied 0 b ≡ call s c a
  unfolding call
  clear_gives e f = rw (e, f)

  pub update_gives : (edit : Edit) (k : List ℕ) (x : ℕ) → c ≡ edit_call edit k x → {r : Step Areas} → r ≡ update s k (edit_call edit k x) a → r ≡ call s c a
  update_gives edit k x e f = rw (e, (shape edit k x s 0 a).1) f

  pub search_gives : (k : List ℕ) → c ≡ search k → {b : Areas} → b ≡ lookup_part a → {r : Answer} → r ≡ searched s b k
      → ◌≡◌ {A = Step Areas} (record { reply = answered r; state = a }) (call s c a)
  unfolding call
  search_gives k e q f = rw (e, f, q)

  pub tally_gives : c ≡ tally → {r : Totals} → r ≡ tally_areas s a → ◌≡◌ {A = Step Areas} (record { reply = totalled r; state = a }) (call s c a)
  unfolding call
  tally_gives e f = rw (e, f)

-- ---- and asks
edit_updates : (edit : Edit) (k : List ℕ) (x : ℕ) → is_update (edit_call edit k x) ≡ true
edit_updates Insert k x = refl
edit_updates Replace k x = refl
edit_updates Remove k x = refl

module _ {s : Settings} {table work : List ℕ} {c : Call} {a : Areas} (asked : Callable s table c work a) where
  pub clear_asks : c ≡ clear → Sized (card s) a
  unfolding lent_lengths
  clear_asks e = sized_by (card s) a (rw e at asked.lengths)

  pub update_asks : (edit : Edit) (k : List ℕ) (x : ℕ) → c ≡ edit_call edit k x → Updating s table work a
  update_asks edit k x e =
      let right = rw (e, (shape edit k x (card s) (length work) a).0) at asked.lengths in
      let words = eqb (length work) (work_length (card s)) in
      record {
        ready = asked.ready (rw e (edit_updates edit k x));
        words = eqb-true _ _ (and_left words _ right);
        sized = sized_by (card s) a (and_right words _ right);
      }

  abbrev Lookup : Areas → Type 0
  Lookup b = CheckedLookup (paper s) b.clipped_counts b.buckets b.side_store

  right_lookup : (b : Areas) → all (λ x. x) (lookup_lengths (card s) b) ≡ true → Lookup b
  unfolding lookup_lengths
  right_lookup b right = checked_lookup (paper s) b.clipped_counts b.buckets b.side_store asked.ok right

  pub search_asks : (k : List ℕ) → c ≡ search k → (b : Areas) → b ≡ lookup_part a → Lookup b
  unfolding lent_lengths
  search_asks k e b q = right_lookup b (lookup_right (card s) b a q ∙ (rw e at asked.lengths))

  pub tally_asks : c ≡ tally → Lookup a × (length a.ledger ≡ ledger_length (card s))
  unfolding lent_lengths
  tally_asks e =
      let right = rw e at asked.lengths in
      let first = eqb (length a.ledger) (ledger_length (card s)) in
      (right_lookup a (and_right first _ right), eqb-true _ _ (and_left first _ right))

-- ---- `perform`'s: 1, 2, then the call
module _ (t : plain.Settings) (w : ℕ) (c : Call) (a : Areas) {r : Result Settings Refusal} (answer : r ≡ judged t w c a) where
  abbrev by : Bool → Bool → Result Settings Refusal
  by ok right = cond ok (cond right (Ok (code t)) (Err WrongAreaLength)) (Err SettingOutOfRange)

  abbrev performed : Bool → Bool → Step Areas
  performed ok right = cond (not ok) (stopped (refused_reply c 1) a) (cond (not right) (stopped (refused_reply c 2) a) (call (card_of t) c a))

  abbrev right : Bool
  right = all (λ x. x) (lent_lengths (card_of t) w c a)

  refused_by : (x : Refusal) (ok right : Bool) → Err x ≡ by ok right
      → ◌≡◌ {A = Step Areas} (stopped (refused_reply c (number_of x)) a) (performed ok right)
  refused_by x true true q = cc
  refused_by x true false q = let same : x ≡ WrongAreaLength = cc in rw same
  refused_by x false right q = let same : x ≡ SettingOutOfRange = cc in rw same

  pub refuses : (x : Refusal) → r ≡ Err x → {y : Reply} → y ≡ refused_reply c (number_of x)
      → ◌≡◌ {A = Step Areas} (record { reply = y; state = a }) (perform t w c a)
  unfolding judged perform
  refuses x e f = rw f (refused_by x (allowed t) right (sym e ∙ answer))

  -- settings that are handed over can be called on
  pub record Allows (s : Settings) : Type 0 where
    pub ok : allowed (paper s) ≡ true
    pub lengths : all (λ x. x) (lent_lengths (card s) w c a) ≡ true
    pub on : {y : Step Areas} → y ≡ call (card s) c a → y ≡ perform t w c a

  allowed_by : (s : Settings) (ok right : Bool) → Ok s ≡ by ok right → (ok ≡ true) × (right ≡ true) × (s ≡ code t)
  allowed_by s true true q = (refl, refl, cc)
  allowed_by s true false q = cc
  allowed_by s false right q = cc

  pub allows : (s : Settings) → r ≡ Ok s → Allows s
  unfolding judged perform
  allows s e =
      let h = allowed_by s (allowed t) right (sym e ∙ answer) in
      record { ok = rw h.2 h.0; lengths = rw h.2 h.1; on = λ f. rw (h.0, h.1) (rw h.2 at f) }

-- ---- with the right table, work of its length and areas of theirs, every call can be made
lengths_right : (s : Card) (w : ℕ) (a : Areas) → w ≡ work_length s → Sized s a → (c : Call) → all (λ x. x) (lent_lengths s w c a) ≡ true
unfolding lent_lengths
lengths_right s w a words z clear = all_lengths_right s a z
lengths_right s w a words z (add k x) = rw (eq-eqb _ _ words) (all_lengths_right s a z)
lengths_right s w a words z (change k x) = rw (eq-eqb _ _ words) (all_lengths_right s a z)
lengths_right s w a words z (remove k) = rw (eq-eqb _ _ words) (all_lengths_right s a z)
lengths_right s w a words z (search k) = lookup_lengths_right s a z
lengths_right s w a words z (fetch k) = lookup_lengths_right s a z
lengths_right s w a words z tally = rw (eq-eqb _ _ z.ledger) (lookup_lengths_right s a z)

pub callable : {s : Settings} {table work : List ℕ} {a : Areas} → Ready s table → length work ≡ work_length (card s) → Sized (card s) a
    → (c : Call) → Callable s table c work a
callable ready words z c = record { ok = ready.ok; ready = λ e. ready; lengths = lengths_right _ _ _ words z c }
