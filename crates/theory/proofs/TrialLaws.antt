-- Laws of the trials: the run on areas gives the plain ledger's numbers, a load is played call by call, the greatest need fits the side store, and what an
-- answer of 0 says of the areas.
use mathlib.Core.Path.{◌≡◌, refl}
use mathlib.Core.Bool.{true, false}
use mathlib.Core.List.{List, [], ◌∷◌, map}
use Prim.Native.Nat.{ℕ, zero, suc, ◌*◌, ◌%◌, ◌≤◌, ◌<◌, zero-le}
use native.Mathlib.Omega.{arith}
use lib.Dec.{ltb, eqb}
use borrow.Author.Tests.{lt-ltb, le-ltb, ltb-false}
use lib.ListN.{length, drop}
use lib.Seq.{drop-drop}
use Rattle.theory.specs.Lists.{All}
use Rattle.theory.specs.Records.{Record, count_of}
use Rattle.theory.specs.Settings.{Settings, settings_of, ipv4_width, allowed, Card, card_of, record_size, bucket_size}
use Rattle.theory.specs.Settings.{ledger_length, true_length, clipped_length, buckets_length, side_length, work_length}
use Rattle.theory.specs.Placing.{true_count, side_need, side_records}
use Rattle.theory.specs.Layout.{Areas, layout, layout_by, side_bytes}
use Rattle.theory.specs.Ledger.{Call, side_need_of, plain}
use Rattle.theory.specs.Calls.{call}
use Rattle.theory.specs.Snapshot.{file_settings}
use Rattle.theory.specs.BenchLoad.{Generator, Drawn, draw, after_call, load_class, load_call, draws, load_calls}
use Rattle.theory.specs.Trials.{Numbers, no_numbers, greater, counted, counted_all, tried, played, area_bytes, area_above, trial_settings, trial_answer}
use Rattle.theory.specs.Trials.{trial_numbers, AsPlayed, GreatestFits}
use Rattle.theory.specs.Demands.{Small, HasLayout}
use Rattle.theory.proofs.ListLaws.{by_test, any_none}
use Rattle.theory.proofs.SettingsLaws.{Sound, sound}
use Rattle.theory.proofs.LayoutLaws.{read_count}
use Rattle.theory.proofs.CallLaws.{has_layout_empty, stays, call_step}

module _ (s : Card) (ok : Sound s) where
  -- in a layout the side store's count is the side need
  pub side_count : (l : List Record) → HasLayout s l → count_of (layout s l).side_store ≡ side_need_of s l
  unfolding layout layout_by side_bytes side_need_of side_need
  side_count l g = read_count s s.side_places (side_records s (true_count s l) l) (omega (arith, g.need, ok.side_small))

  -- ---- from the layout of a list, the calls on areas give the plain ledger's numbers
  pub played_tried : (cs : List Call) (l : List Record) (x : Numbers) → All Small cs → HasLayout s l → played s cs (layout s l) x ≡ tried s cs l x
  unfolding played tried counted_all
  played_tried [] l x m g = refl
  played_tried (c ∷ cs) l x m g =
      let next = stays s ok c l m.0 g in
      rw (call_step s ok c l g, side_count (plain s c l).state next) (played_tried cs (plain s c l).state _ m.1 next)

  -- ---- a list that is held fits the side store, and so does the greatest need
  greater_fits : (a b n : ℕ) → a ≤ n → b ≤ n → greater a b ≤ n
  greater_fits a b n p q = by_test (ltb a b) (λ e. rw e q) (λ e. rw e p)

  need_fits : (cs : List Call) (l : List Record) (x : Numbers) → All Small cs → HasLayout s l → x.greatest_need ≤ s.side_places
      → (tried s cs l x).greatest_need ≤ s.side_places
  unfolding tried counted_all counted
  need_fits [] l x m g h = h
  need_fits (c ∷ cs) l x m g h =
      let next = stays s ok c l m.0 g in
      need_fits cs (plain s c l).state _ m.1 next (greater_fits x.greatest_need (side_need_of s (plain s c l).state) s.side_places h next.need)

-- on a cleared table
pub as_played : AsPlayed
unfolding call
as_played t ok a cs m = played_tried (card_of t) (sound t ok) cs [] no_numbers m (has_layout_empty (card_of t) (sound t ok))

-- the empty list, which a cleared table holds, has no side need
pub cleared_need : (s : Card) → side_need_of s [] ≡ 0
unfolding side_need_of side_need side_records
cleared_need s = refl

-- ---- the calls of a load
small_call : (flows : ℕ) (d : Drawn) → Small (load_call flows d)
unfolding load_call load_class
small_call flows d =
    by_test (eqb (d.first % 4) 0) (λ e. rw e (omega arith))
    (λ e. by_test (eqb (d.first % 4) 1) (λ f. rw (e, f) (omega arith)) (λ f. by_test (eqb (d.first % 4) 2) (λ h. rw (e, f, h) tt) (λ h. rw (e, f, h) tt)))

pub small_calls : (flows n : ℕ) (g : Generator) → All Small (load_calls flows n g)
unfolding load_calls draws
small_calls flows zero g = tt
small_calls flows (suc n) g = (small_call flows (draw g), small_calls flows n (after_call g))

-- ---- settings stand in a trial's bytes as in a snapshot of six settings after its first count
pub as_in_snapshot : (f : List ℕ) → count_of f ≡ 6 → trial_settings (drop 2 f) ≡ file_settings f
unfolding trial_settings file_settings
as_in_snapshot f six = rw (six, drop-drop 2 2 f, drop-drop 4 2 f, drop-drop 6 2 f, drop-drop 8 2 f, drop-drop 10 2 f)

-- ---- the answer: 14 first, then 1, then 2
module _ (b : List ℕ) where
  pub cut_short : length b < 12 → trial_answer b ≡ 14
  unfolding trial_answer
  cut_short short = rw (lt-ltb (length b) 12 short)

  module _ (long : 12 ≤ length b) where
    pub out_of_range : allowed (trial_settings b) ≡ false → trial_answer b ≡ 1
    unfolding trial_answer
    out_of_range e = rw (le-ltb (length b) 12 long, e)

    pub above_64_kib : allowed (trial_settings b) ≡ true → area_above (card_of (trial_settings b)) ≡ true → trial_answer b ≡ 2
    unfolding trial_answer
    above_64_kib e f = rw (le-ltb (length b) 12 long, e, f)

    pub taken : allowed (trial_settings b) ≡ true → area_above (card_of (trial_settings b)) ≡ false → trial_answer b ≡ 0
    unfolding trial_answer
    taken e f = rw (le-ltb (length b) 12 long, e, f)

-- the greatest need of a trial: zero where it is refused
pub greatest_fits : GreatestFits
unfolding trial_numbers trial_answer
greatest_fits load b =
    let t = trial_settings b in
    by_test (ltb (length b) 12) (λ e. rw e zero-le)
    (λ e. by_test (allowed t)
    (λ f. by_test (area_above (card_of t)) (λ g. rw (e, f, g) zero-le)
    (λ g. rw (e, f, g) (places_of t f (load_calls load.flows load.count load.generator) (small_calls load.flows load.count load.generator))))
    (λ f. rw (e, f) zero-le))
  where
    places_of : (t : Settings) → allowed t ≡ true → (cs : List Call) → All Small cs → (tried (card_of t) cs [] no_numbers).greatest_need ≤ t.side_places
    places_of t ok cs m = unfold card_of in need_fits (card_of t) (sound t ok) cs [] no_numbers m (has_layout_empty (card_of t) (sound t ok)) zero-le

-- one call of a load is played, and then the rest from the generator after it
pub played_next : (s : Card) (flows n : ℕ) (g : Generator) (a : Areas) (x : Numbers)
    → played s (load_calls flows (suc n) g) a x
    ≡ played s (load_calls flows n (after_call g)) (call s (load_call flows (draw g)) a).state
    (counted (call s (load_call flows (draw g)) a).reply (count_of (call s (load_call flows (draw g)) a).state.side_store) x)
unfolding played counted_all load_calls draws
played_next s flows n g a x = refl

pub played_end : (s : Card) (flows : ℕ) (g : Generator) (a : Areas) (x : Numbers) → played s (load_calls flows 0 g) a x ≡ x
unfolding played counted_all load_calls draws
played_end s flows g a x = refl

-- ---- no area above 64 KiB
pub record Within64K (s : Card) : Type 0 where
  pub ledger : ledger_length s ≤ 65536
  pub true_counts : 2 * true_length s ≤ 65536
  pub clipped_counts : clipped_length s ≤ 65536
  pub buckets : buckets_length s ≤ 65536
  pub side_store : side_length s ≤ 65536
  pub work : 2 * work_length s ≤ 65536

pub within_64k : (s : Card) → area_above s ≡ false → Within64K s
unfolding area_above area_bytes
within_64k s e =
    let each = any_none (λ n. ltb 65536 n) (area_bytes s) e in
    record {
      ledger = ltb-false _ _ each.0;
      true_counts = ltb-false _ _ each.1.0;
      clipped_counts = ltb-false _ _ each.1.1.0;
      buckets = ltb-false _ _ each.1.1.1.0;
      side_store = ltb-false _ _ each.1.1.1.1.0;
      work = ltb-false _ _ each.1.1.1.1.1.0;
    }

-- which settings are at the limit: N 3,854 and 3,855; p 11 with B 1 and 2; p 10 with B 3 and 4; p 12
pub at_64_kib : map (λ (t : Settings). area_above (card_of t))
    (map (λ (f : ℕ → Settings). f ipv4_width)
    (settings_of 4 1 1 2 3854 0 ∷ settings_of 4 1 1 2 3855 0 ∷ settings_of 11 1 1 2 1 0 ∷ settings_of 11 1 2 2 1 0 ∷ settings_of 10 1 3 2 1 0
    ∷ settings_of 10 1 4 2 1 0 ∷ settings_of 12 1 1 2 1 0 ∷ []))
    ≡ false ∷ true ∷ false ∷ true ∷ false ∷ true ∷ true ∷ []
unfolding area_above area_bytes card_of ledger_length true_length clipped_length buckets_length side_length work_length record_size bucket_size
at_64_kib = refl
