-- Laws of a search that says where the record lies: its place is the definition's, by the areas and by the call.
use Rattle.std.proofs.Common.{inl, inr}
use mathlib.Core.Logic.{◌⊎◌}
use mathlib.Core.Path.{◌≡◌, refl, sym, ap, ◌∙◌}
use mathlib.Core.Bool.{Bool, true, cond}
use mathlib.Core.List.{List}
use Prim.Native.Nat.{ℕ, ◌+◌, ◌*◌, ◌≤◌}
use native.Mathlib.Omega.{arith}
use lib.Dec.{eqb}
use borrow.Author.Tests.{eqb-true, eqb-false}
use Rattle.theory.specs.Hash.{H}
use Rattle.theory.specs.Settings.{Settings, Card, card_of, record_size, bucket_size}
use Rattle.theory.specs.Placing.{chosen}
use Rattle.theory.specs.Layout.{Areas}
use Rattle.theory.specs.Lookup as plain
use Rattle.theory.specs.Lookup.{accepted, counter, bare, no_place, goes_to_bucket, answer_at, search_areas, record_place}
use Rattle.theory.specs.Ledger.{Step}
use Rattle.theory.specs.Calls.{reply_number}
use Rattle.theory.proofs.ListLaws.{by_test}
use Rattle.theory.proofs.RecordPlaceLaws.{compared_one, not_held}
use Rattle.std.specs.Prelude.{Option, None, Result, Ok, Err}
use Rattle.memory.specs.declared.refusals.Refusal.{Refusal}
use Rattle.memory.specs.Refusals.{number_of}
use Rattle.settings.specs.declared.Settings as code
use Rattle.settings.specs.Checked.{paper}
use Rattle.lookup.specs.declared.searching.Answer.{Answer}
use Rattle.lookup.specs.declared.places.Place.{Place}
use Rattle.lookup.specs.declared.places.Place.TheVariants.{Invalid, Nowhere}
use Rattle.lookup.specs.declared.locating.Area.{Area}
use Rattle.lookup.specs.declared.locating.RecordPlace.{RecordPlace}
use Rattle.lookup.specs.declared.locating.Located.{Located}
use Rattle.lookup.specs.Choosing.{card_at}
use Rattle.lookup.specs.Places.{place_of}
use Rattle.lookup.specs.Answers.{answer_of, judged_of}
use Rattle.lookup.specs.Locating.{area_number, place_of_record, lies_at, record_from, LocatedAt, judged_place, LocatedCall}
use Rattle.lookup.proofs.PlaceLaws.{place_hashed}
use Rattle.lookup.proofs.JudgeLaws.{Unrefused, refused_is, search_refused, search_answered}

-- a search that finds the key has compared a record
pub one_compared : (s : Card) (k : List ℕ) (x : plain.Place) (a : Answer) → answer_of a ≡ answer_at s k x → a.number ≡ 0 → 1 ≤ a.records_compared
one_compared s k x a e z =
    let one = compared_one s k x (sym (ap (λ (y : plain.Answer). y.number) e) ∙ z) in
    omega (arith, one, ap (λ (y : plain.Answer). y.records_compared) e)

-- refused, or absent by the counters
pub none_held : (s : Card) (k buckets side : List ℕ) (r : Place) (a : Answer) → answer_of a ≡ answer_at s k (place_of s buckets side r)
    → (r ≡ Invalid) ⊎ (r ≡ Nowhere) → a.number ≡ 0 → ⊥
unfolding answer_at
none_held s k buckets side r a is (inl e) z = let five : answer_of a ≡ bare 5 = rw e at is in omega (arith, ap (λ (x : plain.Answer). x.number) five)
none_held s k buckets side r a is (inr e) z = let absent : answer_of a ≡ bare 100 = rw e at is in omega (arith, ap (λ (x : plain.Answer). x.number) absent)

-- ---- by the areas, of a key with this H
module _ (t : Settings) (h : ℕ) (clipped buckets side key : List ℕ) (a : Answer)
    (is : answer_of a ≡ search_areas (card_at t h) clipped buckets side key) where
  pub lies_nowhere : (a.number ≡ 0 → ⊥) → no_place ≡ record_place (card_at t h) clipped buckets side key
  lies_nowhere n = sym (not_held (card_at t h) clipped buckets side key (λ z. n (ap (λ (x : plain.Answer). x.number) is ∙ z))).0

  -- among records of a bucket, or of the side store
  pub lies_among : (g : Bool) → goes_to_bucket (card_at t h) clipped buckets key ≡ g → (area : Area) → area_number area ≡ cond g 1 2
      → (first : ℕ) → first ≡ cond g (chosen (card_at t h) (counter clipped) key * bucket_size (card_of t) + 1) 2
      → (size : ℕ) → size ≡ record_size (card_of t) → {r : Option RecordPlace} → r ≡ record_from a area first size
      → place_of_record r ≡ record_place (card_at t h) clipped buckets side key
  unfolding record_place bucket_size record_size card_at
  lies_among g goes area there first at size sized e =
      rw (e, sized)
      (by_test (eqb a.number 0) (λ z. rw z (rw (← is, goes, at, there, z))) (λ z. rw z (lies_nowhere (eqb-false a.number 0 z))))

-- ---- by the call
module _ (t : Settings) (clipped buckets side key : List ℕ) where
  pub place_refused : (n : Refusal) → judged_of t clipped buckets side key ≡ Err n → judged_place t clipped buckets side key ≡ no_place
  unfolding judged_place
  place_refused n e = rw e

  pub place_ready : (c : code.Settings) → judged_of t clipped buckets side key ≡ Ok c
      → judged_place t clipped buckets side key ≡ record_place (card_of t) clipped buckets side key
  unfolding judged_place
  place_ready c e = rw e

  pub call_nowhere : (n : Refusal) → judged_of t clipped buckets side key ≡ Err n → {a : Answer} → answer_of a ≡ bare (number_of n)
      → LocatedCall t clipped buckets side key (record { answer = a; place = None })
  call_nowhere n e {a} is =
      record { answers = search_refused t clipped buckets side key n e (answer_of a) is; lies = sym (place_refused n e) }

  -- an accepted call gives the place by the areas
  module _ (r : Located) (call : LocatedCall t clipped buckets side key r) where
    pub place_accepted : accepted r.answer.number ≡ true → lies_at r ≡ record_place (card_of t) clipped buckets side key
    place_accepted ok = call.lies ∙ go (judged_of t clipped buckets side key) refl
      where
        low : (n : ℕ) → (1 ≤ n) × (n ≤ 3) → accepted n ≡ true → ⊥
        low n h e = by_test (eqb n 0) (λ z. omega (arith, h, eqb-true n 0 z)) (λ z. omega (arith, h, eqb-true n 100 (rw z at e)))

        go : (j : Result code.Settings Refusal) → judged_of t clipped buckets side key ≡ j
            → judged_place t clipped buckets side key ≡ record_place (card_of t) clipped buckets side key
        go (Err n) e =
            let stopped = search_refused t clipped buckets side key n e (bare (number_of n)) refl in
            let small = refused_is t clipped buckets side key bare (bare (number_of n)) n e in
            let same : r.answer.number ≡ number_of n = ap (λ (x : Step Areas). reply_number x.reply) (call.answers ∙ sym stopped) in
            absurd (low r.answer.number (rw same (small.1, small.2)) ok)
        go (Ok c) e = place_ready c e

pub call_located : {t : Settings} {clipped buckets side key : List ℕ} {c : code.Settings} → Unrefused t clipped buckets side key c → (h : ℕ) → h ≡ H key
    → {r : Located} → LocatedAt (card_at (paper c) h) clipped buckets side key r → LocatedCall t clipped buckets side key r
call_located {t} {clipped} {buckets} {side} {key} {c} u h is-H at =
    record {
      answers = search_answered u h is-H _ at.answers;
      lies = at.lies ∙ place_hashed (paper c) clipped buckets side key h is-H
          ∙ ap (λ (v : Settings). record_place (card_of v) clipped buckets side key) u.same
          ∙ sym (place_ready t clipped buckets side key c u.judged);
    }
