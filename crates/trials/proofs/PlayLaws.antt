-- Laws of playing a load: one call of it, what the loop keeps, and a table that was cleared before.
use mathlib.Core.Path.{◌≡◌, sym, ap, ◌∙◌}
use mathlib.Core.List.{List, []}
use Prim.Native.Nat.{ℕ, suc, ◌+◌, ◌≤◌}
use native.Mathlib.Omega.{arith}
use Rattle.theory.specs.Records.{count_of}
use Rattle.theory.specs.Settings.{Card}
use Rattle.theory.specs.Layout.{Areas, layout}
use Rattle.theory.specs.Ledger.{Call, Reply, Step, plain}
use Rattle.theory.specs.Calls.{call}
use Rattle.theory.specs.BenchLoad.{Generator, draw, after_call, draws, load_call, load_calls}
use Rattle.theory.specs.Trials.{Numbers, no_numbers, counted, tried, played}
use Rattle.theory.specs.Demands.{Small, Sized}
use Rattle.theory.proofs.SettingsLaws.{Sound, sound}
use Rattle.theory.proofs.CallLaws.{sized, has_layout_empty, stays, call_step}
use Rattle.theory.proofs.TrialLaws.{played_tried, small_calls, played_next, played_end}
use Rattle.settings.specs.declared.Settings.{Settings}
use Rattle.settings.specs.Checked.{paper, card}
use Rattle.settings.specs.declared.areas.Areas as lent
use Rattle.settings.specs.Areas.{contents, SameSlices}
use lib.ListN.{length}
use Rattle.trials.specs.Data.{Grown}
use Rattle.trials.specs.Playing.{Holds, Playing, PlayingParts, Played}
use Rattle.trials.proofs.TrialNumberLaws.{Bounded, bounded_less}

-- ---- one call: the one that two numbers make
pub played_by : (s : Card) {c d : Call} → d ≡ c → {a after : Areas} {x y : Numbers} {r : Reply} {need : ℕ}
    → ◌≡◌ {A = Step Areas} (record { reply = r; state = after }) (call s d a) → need ≡ count_of after.side_store
    → y ≡ counted r need x → Grown x y → Played s c a x after y
played_by s {c} {d} same {a} {after} {x} {y} {r} {need} made need_is sum grown =
    let step : ◌≡◌ {A = Step Areas} (record { reply = r; state = after }) (call s c a) = made ∙ rw same in
    record { areas = ap (λ (z : Step Areas). z.state) step; numbers = sum ∙ rw (need_is, ← step); grown = grown }

-- ---- areas that keep their lengths are sized
pub sized_kept : {s : Card} {a b : lent.Areas} → Sized s (contents a) → SameSlices a b → Sized s (contents b)
sized_kept z same =
    record {
      ledger = same.ledger_long ∙ z.ledger;
      true_counts = same.true_long ∙ z.true_counts;
      clipped_counts = same.clipped_long ∙ z.clipped_counts;
      buckets = same.buckets_long ∙ z.buckets;
      side_store = same.side_long ∙ z.side_store;
    }

-- ---- areas that hold a list are sized, and hold one after a call
module _ (s : Card) (ok : Sound s) {a : Areas} (h : Holds s a) where
  pub holds_sized : Sized s a
  holds_sized = rw h.same (sized s ok h.list h.fits)

  holds_on : (c : Call) → Small c → {b : Areas} → b ≡ (call s c a).state → Holds s b
  holds_on c small e =
      record {
        list = (plain s c h.list).state;
        fits = stays s ok c h.list small h.fits;
        same = e ∙ rw (h.same, call_step s ok c h.list h.fits);
      }

next_small : (flows : ℕ) (g : Generator) → Small (load_call flows (draw g))
unfolding load_calls draws
next_small flows g = (small_calls flows 1 g).0

-- the areas hold a list after the next call of a load, if they hold one before it
pub holds_next : {s : Settings} {table work : List ℕ} {a after : Areas} (flows : ℕ) (g : Generator) → Playing s table work a → Holds (card s) a → {c : Call}
    → c ≡ load_call flows (draw g) → {r : Reply} → ◌≡◌ {A = Step Areas} (record { reply = r; state = after }) (call (card s) c a) → Holds (card s) after
holds_next {s} flows g playing held is made =
    holds_on (card s) (sound (paper s) playing.ready.ok) held _ (rw is (next_small flows g)) (ap (λ (z : Step Areas). z.state) made)

-- ---- before each turn: what is played of the rest is what is played of all
pub record Going (s : Settings) (table : List ℕ) (flows : ℕ) (g₀ : Generator) (count : ℕ) (a₀ : Areas) (x₀ : Numbers) (work : List ℕ) (a : Areas)
    (g : Generator) (left : ℕ) (x : Numbers) : Type 0 where
  pub playing : Playing s table work a
  pub bounded : Bounded left x
  pub rest : played (card s) (load_calls flows left g) a x ≡ played (card s) (load_calls flows count g₀) a₀ x₀

module _ {s : Settings} {table : List ℕ} {flows : ℕ} {g₀ : Generator} {count : ℕ} {a₀ : Areas} {x₀ : Numbers} {work : List ℕ} {a : Areas} {g : Generator}
    {left : ℕ} {x : Numbers} (h : Going s table flows g₀ count a₀ x₀ work a g left x) where
  pub going_more : {d : ℕ} → d + 1 ≡ left → {later : Generator} → later ≡ after_call g → {work' : List ℕ} → length work' ≡ length work
      → {after : Areas} → Sized (card s) after → {y : Numbers} → Played (card s) (load_call flows (draw g)) a x after y
      → Going s table flows g₀ count a₀ x₀ work' after later d y
  going_more {d} less next words sized p =
      let one : left ≡ suc d = omega arith in
      let step = rw one at h.rest in
      record {
        playing = record { ready = h.playing.ready; words = words ∙ h.playing.words; sized = sized };
        bounded = bounded_less h.bounded p.grown less;
        rest = rw (next, p.areas, p.numbers) (sym (played_next (card s) flows d g a x) ∙ step);
      }

  pub going_all : left ≤ 0 → x ≡ played (card s) (load_calls flows count g₀) a₀ x₀
  going_all ended =
      let none : left ≡ 0 = omega arith in
      let step = rw none at h.rest in
      sym (played_end (card s) flows g a x) ∙ step

-- ---- on a cleared table: by the laws that carry demand 3
pub holds_empty : {s : Settings} {work : List ℕ} {before cleared : Areas} → PlayingParts s work before → cleared ≡ layout (card s) [] → Holds (card s) cleared
holds_empty {s} parts e = record { list = []; fits = has_layout_empty (card s) (sound (paper s) parts.ok); same = e }

pub tried_by : {s : Settings} {work : List ℕ} {before cleared : Areas} → PlayingParts s work before → cleared ≡ layout (card s) [] → (flows n : ℕ)
    (g : Generator) {y : Numbers} → y ≡ played (card s) (load_calls flows n g) cleared no_numbers → y ≡ tried (card s) (load_calls flows n g) [] no_numbers
tried_by {s} parts e flows n g f =
    let ok = sound (paper s) parts.ok in
    let from_empty = rw e at f in
    from_empty ∙ played_tried (card s) ok (load_calls flows n g) [] no_numbers (small_calls flows n g) (has_layout_empty (card s) ok)
