-- Laws of the second search call: where the record lies nowhere its part is empty, and else the bytes of that place.
use mathlib.Core.Path.{◌≡◌, refl, sym, ap, ◌∙◌}
use mathlib.Core.Bool.{Bool, true, false, cond}
use mathlib.Core.List.{List, []}
use Prim.Native.Nat.{ℕ, ◌+◌, ◌≤◌}
use native.Mathlib.Omega.{arith}
use lib.Dec.{eqb}
use borrow.Author.Tests.{eqb-true, eqb-false}
use lib.ListN.{length, take, drop}
use denote.Ref.{Bor}
use Rattle.theory.specs.Settings.{Settings, card_of, record_size, buckets_length, side_length}
use Rattle.theory.specs.Records.{class_width}
use Rattle.theory.specs.Lookup.{RecordPlace, search_areas, fetch_areas, record_place}
use Rattle.theory.proofs.ListLaws.{by_test}
use Rattle.theory.proofs.SettingsLaws.{sound}
use Rattle.theory.proofs.RecordPlaceLaws.{held_bytes, held_area, not_held, held_inside}
use Rattle.settings.proofs.Laws.{width_is, record_size_is}
use Rattle.lookup.specs.declared.locating.Area.{Area}
use Rattle.lookup.specs.declared.locating.Area.TheVariants.{Buckets, Side}
use Rattle.lookup.specs.declared.locating.RecordPlace as code_place
use Rattle.lookup.specs.declared.locating.Located.{Located}
use Rattle.std.specs.Prelude.{Option, Some, Result, Ok, Err}
use Rattle.memory.specs.declared.refusals.Refusal.{Refusal}
use Rattle.settings.specs.declared.Settings as code
use Rattle.lookup.specs.Places.{CheckedLookup}
use Rattle.lookup.specs.Answers.{judged_of}
use Rattle.lookup.specs.Locating.{area_number, place_of_record, lies_at, LocatedCall}
use Rattle.lookup.specs.Parts.{PartAt, one_of, FetchedCall}
use Rattle.lookup.proofs.JudgeLaws.{refused_or, refused_is, unrefused, passes, fetch_performs}
use Rattle.lookup.proofs.LocateLaws.{place_refused, place_ready}

module _ {t : Settings} {clipped buckets side key : List ℕ} {r : Located} (call : LocatedCall t clipped buckets side key r) where
  abbrev number : ℕ
  number = (search_areas (card_of t) clipped buckets side key).number

  abbrev fetched : List ℕ
  fetched = fetch_areas (card_of t) clipped buckets side key

  -- ---- nowhere: the empty part
  no_part : (lies_at r).area ≡ 0 → (j : Result code.Settings Refusal) → judged_of t clipped buckets side key ≡ j → refused_or t clipped buckets side key (λ n. []) fetched ≡ []
  no_part none (Err n) e = (refused_is t clipped buckets side key (λ n. []) _ n e).0
  no_part none (Ok c) e =
      let there = call.lies ∙ place_ready t clipped buckets side key c e in
      let away : number ≡ 0 → ⊥
      = λ held. held_area (card_of t) clipped buckets side key held (sym (ap (λ (x : RecordPlace). x.area) there) ∙ none) in
      passes (unrefused t clipped buckets side key c e) (λ n. []) _ ∙ (not_held (card_of t) clipped buckets side key away).1

  -- ---- somewhere: the key is held, and its record lies there
  record Held : Type 0 where
    checked : CheckedLookup t clipped buckets side
    wide : length key ≡ (card_of t).width
    held : number ≡ 0
    there : lies_at r ≡ record_place (card_of t) clipped buckets side key
    passed : refused_or t clipped buckets side key (λ n. []) fetched ≡ fetched

  known : ((lies_at r).area ≡ 0 → ⊥) → (j : Result code.Settings Refusal) → judged_of t clipped buckets side key ≡ j → Held
  known some (Err n) e = absurd (some (ap (λ (x : RecordPlace). x.area) (call.lies ∙ place_refused t clipped buckets side key n e)))
  known some (Ok c) e =
      let good = unrefused t clipped buckets side key c e in
      let at = call.lies ∙ place_ready t clipped buckets side key c e in
      record {
        checked = rw good.same at good.checked;
        wide = rw good.same at good.wide;
        held = by_test (eqb number 0) (λ z. eqb-true number 0 z)
            (λ z. let away = (not_held (card_of t) clipped buckets side key (eqb-false number 0 z)).0 in
            absurd (some (ap (λ (x : RecordPlace). x.area) (at ∙ away))));
        there = at;
        passed = passes good (λ n. []) fetched;
      }

pub fetched_none : {t : Settings} {clipped : List ℕ} {buckets side : Bor (List ℕ)} {key : List ℕ} {r : Located}
    → LocatedCall t clipped buckets.now side.now key r → (lies_at r).area ≡ 0 → {x : Bor (List ℕ)} → x.now ≡ [] → FetchedCall t clipped buckets side key x
fetched_none {t} {clipped} {buckets} {side} {key} call none {x} e =
    record {
      is = fetch_performs t clipped buckets.now side.now key x.now (no_part call none _ refl ∙ sym e);
      lies = λ some. absurd (some e);
    }

-- where a call says that the record lies: in the buckets, or not
pub record Somewhere (t : Settings) (clipped : List ℕ) (buckets side : Bor (List ℕ)) (key : List ℕ) (r : Located) (g : Bool) : Type 0 where
  pub call : LocatedCall t clipped buckets.now side.now key r
  pub some : (lies_at r).area ≡ 0 → ⊥
  pub which : eqb (lies_at r).area 1 ≡ g

-- in an area
of_areas : (a : Area) → area_number a ≡ 0 → ⊥
of_areas Buckets e = omega arith
of_areas Side e = omega arith

pub in_area : {t : Settings} {clipped : List ℕ} {buckets side : Bor (List ℕ)} {key : List ℕ} {r : Located}
    → LocatedCall t clipped buckets.now side.now key r → (p : code_place.RecordPlace) → r.place ≡ Some p → (a : Area) → p.area ≡ a
    → Somewhere t clipped buckets side key r (eqb (area_number a) 1)
in_area {r = r} call p e a is =
    let at : (lies_at r).area ≡ area_number a = ap (λ (q : Option code_place.RecordPlace). (place_of_record q).area) e ∙ ap area_number is in
    record { call = call; some = λ z. of_areas a (sym at ∙ z); which = ap (λ (n : ℕ). eqb n 1) at }

module _ {t : Settings} {clipped : List ℕ} {buckets side : Bor (List ℕ)} {key : List ℕ} {r : Located} {g : Bool}
    (w : Somewhere t clipped buckets side key r g) where
  here : Held w.call
  here = known w.call w.some _ refl

  abbrev lies : RecordPlace
  lies = record_place (card_of t) clipped buckets.now side.now key

  start_is : (lies_at r).start ≡ lies.start
  start_is = ap (λ (x : RecordPlace). x.start) here.there

  area_is : eqb lies.area 1 ≡ g
  area_is = sym (ap (λ (x : RecordPlace). eqb x.area 1) here.there) ∙ w.which

  lent_length : (b : Bool) → cond b (buckets_length (card_of t)) (side_length (card_of t)) ≡ length (one_of b buckets side).now
  lent_length true = sym here.checked.buckets_size
  lent_length false = sym here.checked.side_size

  lent_area : (b : Bool) → cond b buckets.now side.now ≡ (one_of b buckets side).now
  lent_area true = refl
  lent_area false = refl

  -- a record is four bytes longer than its key
  pub size_is : length key + class_width ≡ record_size (card_of t)
  size_is = rw (here.wide, record_size_is t, width_is t)

  record_inside : (lies_at r).start + record_size (card_of t) ≤ length (one_of g buckets side).now
  record_inside =
      rw (start_is, ← lent_length g, ← area_is)
      (held_inside (card_of t) clipped buckets.now side.now key (sound t here.checked.ok) here.held)

  -- by what the call handed over
  module _ (p : code_place.RecordPlace) (e : r.place ≡ Some p) where
    pub ends_inside : p.start + (length key + class_width) ≤ length (one_of g buckets side).now
    ends_inside = omega (arith, rw e at record_inside, size_is)

    one_long : (b : Bool) → length (one_of b buckets side).now ≤ length buckets.now + length side.now
    one_long true = omega arith
    one_long false = omega arith

    pub ends_early : p.start + (length key + class_width) ≤ length buckets.now + length side.now
    ends_early = omega (arith, ends_inside, one_long g)

  pub fetched_there : {x : Bor (List ℕ)} → PartAt (record_size (card_of t)) (lies_at r).start (one_of g buckets side) x → FetchedCall t clipped buckets side key x
  fetched_there {x} part =
      let size = record_size (card_of t) in
      let bytes = held_bytes (card_of t) clipped buckets.now side.now key here.held in
      record {
        is = fetch_performs t clipped buckets.now side.now key x.now
            (here.passed ∙ bytes
            ∙ ap (λ (b : Bool). take size (drop lies.start (cond b buckets.now side.now))) area_is
            ∙ ap (λ (l : List ℕ). take size (drop lies.start l)) (lent_area g)
            ∙ ap (λ (n : ℕ). take size (drop n (one_of g buckets side).now)) (sym start_is)
            ∙ sym part.bytes);
        lies = λ _. rw (area_is, ← start_is) part;
      }
