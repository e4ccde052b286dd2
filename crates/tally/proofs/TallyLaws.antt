-- Laws of tally: each loop over the buckets counts what the definition counts, and the call is `perform`'s.
use mathlib.Core.Path.{◌≡◌, refl, sym, ap, ◌∙◌}
use mathlib.Core.Bool.{Bool, true, false, cond, not, ◌&&◌, ◌||◌}
use mathlib.Core.List.{List, [], ◌∷◌, ◌++◌, map}
use Prim.Native.Nat.{ℕ, zero, suc, ◌+◌, ◌-◌, ◌*◌, ◌/◌, ◌≤◌, ◌<◌}
use native.Mathlib.Numerals.{add-one}
use native.Mathlib.Nat.{zero-mul}
use native.Mathlib.Omega.{arith}
use lib.Dec.{eqb, ltb, leb}
use borrow.Author.Tests.{eqb-true, leb-true, leb-false, lt-ltb, le-ltb}
use lib.ListN.{length, get_or, drop, length-append, length-drop}
use lib.Seq.{take_at, drop_at, drop-drop}
use denote.Ref.{Bor}
use Rattle.std.proofs.Math.Nat.{lt_of_mul-lt-mul_right}
use Rattle.std.proofs.Common.{Some, None}
use Rattle.std.specs.declared.slice.ChunksExact.{ChunksExact}
use Rattle.std.specs.Slice.Iter.{chunks_exact_rest, chunks_exact_size, chunks_exact_steps}
use Rattle.theory.specs.Lists.{filter, any, all, upto, sum}
use Rattle.theory.specs.Settings.{Settings, allowed, card_of, bucket_size, ledger_length, clipped_length, buckets_length}
use Rattle.theory.specs.Lookup.{counter, bucket_part}
use Rattle.theory.specs.Records.{count_of}
use Rattle.theory.specs.Layout.{Areas}
use Rattle.theory.specs.Ledger.{tally, Totals, no_totals, Step, totalled}
use Rattle.theory.specs.Calls.{marks, lookup_invalid, tally_areas, call, lookup_lengths, lent_lengths, perform}
use Rattle.theory.proofs.ListLaws.{by_test, and_left, and_right}
use Rattle.theory.proofs.SettingsLaws.{sound}
use Rattle.settings.specs.declared.Settings as settings
use Rattle.std.specs.Prelude.{Ok, Err}
use Rattle.memory.specs.declared.refusals.Refusal.{Refusal}
use Rattle.memory.specs.Refusals.{number_of}
use Rattle.settings.specs.Checked.{paper, card, checked_of}
use Rattle.settings.proofs.Laws.{allowed_arm, refused_arm}
use Rattle.lookup.specs.Places.{CheckedLookup}
use Rattle.lookup.specs.Answers.{lookup_areas}
use Rattle.lookup.proofs.PlaceLaws.{mark_is}
use Rattle.lookup.proofs.JudgeLaws.{checked_lookup}
use Rattle.tally.specs.Tallies.{read_areas}

-- ---- a loop over the numbers below m that stops at the first that passes a test: those from b on decide
pub record AnyLeft (p : ℕ → Bool) (m b : ℕ) : Type 0 where
  pub few : b ≤ m
  pub same : any p (upto b (m - b)) ≡ any p (upto 0 m)

module _ {p : ℕ → Bool} {m : ℕ} where
  pub any_start : AnyLeft p m 0
  any_start = record { few = omega arith; same = let e : m - 0 ≡ m = omega arith in rw e }

  module _ {b : ℕ} (l : AnyLeft p m b) where
    pub any_over : m ≤ b → any p (upto 0 m) ≡ false
    any_over le = let e : m - b ≡ 0 = omega arith in sym l.same ∙ rw e

    module _ (lt : b < m) where
      next : any p (upto 0 m) ≡ (p b || any p (upto (b + 1) (m - (b + 1))))
      next = let e : m - b ≡ suc (m - (b + 1)) = omega arith in sym l.same ∙ rw (e, add-one)

      pub any_hit : p b ≡ true → any p (upto 0 m) ≡ true
      any_hit e = next ∙ rw e

      pub any_on : p b ≡ false → AnyLeft p m (b + 1)
      any_on e = record { few = omega arith; same = sym (next ∙ rw e) }

-- ---- a loop that sums g of the numbers below b: one more, and what a filter sums and counts
abbrev pub sum_below : (ℕ → ℕ) → ℕ → ℕ
sum_below g b = sum (map g (upto 0 b))

sum_last : (g : ℕ → ℕ) (a n : ℕ) → sum (map g (upto a (suc n))) ≡ sum (map g (upto a n)) + g (a + n)
sum_last g a zero = let e : a + 0 ≡ a = omega arith in rw e (omega arith)
sum_last g a (suc n) =
    let e : a + suc n ≡ suc a + n = omega arith in rw e (let h = sum_last g (suc a) n in omega (arith, h))

pub sum_more : (g : ℕ → ℕ) (b : ℕ) → sum_below g (b + 1) ≡ sum_below g b + g b
sum_more g b = let e : 0 + b ≡ b = omega arith in rw add-one (rw e at (sum_last g 0 b))

kept_sum : (f : ℕ → ℕ) (l : List ℕ) → sum (filter (λ x. not (eqb x 255)) (map f l)) ≡ sum (map (λ b. cond (eqb (f b) 255) 0 (f b)) l)
kept_sum f [] = refl
kept_sum f (b ∷ l) = let h = kept_sum f l in by_test (eqb (f b) 255) (λ e. rw e (omega (arith, h))) (λ e. rw e (omega (arith, h)))

kept_count : (f : ℕ → ℕ) (l : List ℕ) → length (filter (λ x. eqb x 255) (map f l)) ≡ sum (map (λ b. cond (eqb (f b) 255) 1 0) l)
kept_count f [] = refl
kept_count f (b ∷ l) = let h = kept_count f l in by_test (eqb (f b) 255) (λ e. rw e (omega (arith, h))) (λ e. rw e (omega (arith, h)))

any_map : (p : ℕ → Bool) (f : ℕ → ℕ) (l : List ℕ) → any p (map f l) ≡ any (λ x. p (f x)) l
any_map p f [] = refl
any_map p f (x ∷ xs) = rw (any_map p f xs)

-- ---- the marks of the buckets
abbrev pub mark_at : Settings → List ℕ → ℕ → ℕ
mark_at t buckets b = get_or (bucket_part (card_of t) buckets b) 0 0

-- what bucket b adds to the two sums
abbrev pub records_of : Settings → List ℕ → ℕ → ℕ
records_of t buckets b = cond (eqb (mark_at t buckets b) 255) 0 (mark_at t buckets b)

abbrev pub is_255 : Settings → List ℕ → ℕ → ℕ
is_255 t buckets b = cond (eqb (mark_at t buckets b) 255) 1 0

module _ (t : Settings) (buckets : List ℕ) where
  pub marks_any : (p : ℕ → Bool) → any p (marks (card_of t) buckets) ≡ any (λ b. p (mark_at t buckets b)) (upto 0 (card_of t).buckets)
  unfolding marks
  marks_any p = any_map p (mark_at t buckets) (upto 0 (card_of t).buckets)

  pub marks_sum : sum (filter (λ x. not (eqb x 255)) (marks (card_of t) buckets)) ≡ sum_below (records_of t buckets) (card_of t).buckets
  unfolding marks
  marks_sum = kept_sum (mark_at t buckets) (upto 0 (card_of t).buckets)

  pub marks_count : length (filter (λ x. eqb x 255) (marks (card_of t) buckets)) ≡ sum_below (is_255 t buckets) (card_of t).buckets
  unfolding marks
  marks_count = kept_count (mark_at t buckets) (upto 0 (card_of t).buckets)

pub mark_byte : (t : Settings) (buckets : List ℕ) → allowed t ≡ true → ((i : ℕ) → get_or buckets i 0 ≤ 255) → (b : ℕ) → mark_at t buckets b ≤ 255
mark_byte t buckets ok bytes b = rw (mark_is {t = t} {buckets = buckets} {b = b} (record { ok = ok; start = refl })) (bytes _)

pub bucket_some : (t : Settings) → allowed t ≡ true → 0 < bucket_size (card_of t)
unfolding bucket_size
bucket_some t ok = omega arith

-- ---- a loop over the buckets after i of them: the chunks that are left
pub record Left (t : Settings) (buckets : List ℕ) (i : ℕ) (s : ChunksExact ℕ) : Type 0 where
  pub ok : allowed t ≡ true
  pub long : length buckets ≡ buckets_length (card_of t)
  pub size_is : chunks_exact_size s ≡ bucket_size (card_of t)
  pub within : i * bucket_size (card_of t) ≤ length buckets
  pub rest_is : chunks_exact_rest s ≡ drop (i * bucket_size (card_of t)) buckets

pub record Chunk (t : Settings) (buckets : List ℕ) (i : ℕ) (x : List ℕ) (u : ChunksExact ℕ) : Type 0 where
  pub mark : get_or x 0 0 ≡ mark_at t buckets i
  pub some : 0 < length x
  pub few : i < (card_of t).buckets
  pub next : Left t buckets (i + 1) u

pub left_start : {t : Settings} {buckets : List ℕ} {s u : ChunksExact ℕ} → allowed t ≡ true → length buckets ≡ buckets_length (card_of t)
    → u ≡ s → chunks_exact_rest s ≡ buckets → chunks_exact_size s ≡ bucket_size (card_of t) → Left t buckets 0 u
left_start ok long e f g = rw e (record { ok = ok; long = long; size_is = g; within = omega arith; rest_is = rw zero-mul f })

-- a multiple of the bucket size within the buckets is of a number of buckets
within_few : (t : Settings) (n i : ℕ) → allowed t ≡ true → n ≡ buckets_length (card_of t) → i * bucket_size (card_of t) ≤ n → i ≤ (card_of t).buckets
unfolding buckets_length
within_few t n i ok e le =
    let size = bucket_size (card_of t) in
    let some = bucket_some t ok in
    let next : ((card_of t).buckets + 1) * size ≡ (card_of t).buckets * size + size = omega arith in
    let lt : i < (card_of t).buckets + 1 = lt_of_mul-lt-mul_right size (omega (arith, next, le, e, some)) in omega (arith, lt)

module _ {t : Settings} {buckets : List ℕ} {i : ℕ} {s u : ChunksExact ℕ} (left : Left t buckets i s) where
  pub chunk : (x : Bor (List ℕ)) → chunks_exact_steps s (Some x) u → Chunk t buckets i x.now u
  unfolding bucket_part
  chunk x step =
      let size = bucket_size (card_of t) in
      let here : drop (i * size) buckets ≡ x.now ++ chunks_exact_rest u = sym left.rest_is ∙ step.1.0 in
      let long : length x.now ≡ size = step.1.1 ∙ left.size_is in
      let next : (i + 1) * size ≡ i * size + size = omega arith in
      let rest : length buckets - i * size ≡ length x.now + length (chunks_exact_rest u) =
      sym (length-drop (i * size) buckets) ∙ ap length here ∙ length-append x.now _ in
      let within : (i + 1) * size ≤ length buckets = omega (arith, left.within, next, rest, long) in
      record {
        mark = rw (here, take_at x.now (chunks_exact_rest u) size long);
        some = rw long (bucket_some t left.ok);
        few = let le = within_few t _ (i + 1) left.ok left.long within in omega (arith, le);
        next = record {
          ok = left.ok;
          long = left.long;
          size_is = step.0 ∙ left.size_is;
          within = within;
          rest_is = rw (next, ← drop-drop size (i * size) buckets, here, drop_at x.now (chunks_exact_rest u) size long);
        };
      }

  pub left_none : chunks_exact_steps s None u → i ≡ (card_of t).buckets
  unfolding buckets_length
  left_none step =
      let size = bucket_size (card_of t) in
      let short : length (drop (i * size) buckets) < size = rw (← left.rest_is, ← left.size_is) step.1.0 in
      let short_left : length buckets - i * size < size = rw length-drop at short in
      let next : (i + 1) * size ≡ i * size + size = omega arith in
      let few = within_few t _ i left.ok left.long left.within in
      let lt : (card_of t).buckets < i + 1 = lt_of_mul-lt-mul_right size (omega (arith, next, short_left, left.within, left.long)) in
      omega (arith, few, lt)

pub counter_in : (t : Settings) (clipped : List ℕ) (b m : ℕ) → allowed t ≡ true → length clipped ≡ clipped_length (card_of t) → m ≡ (card_of t).buckets
    → b < m → b / 2 < length clipped
unfolding clipped_length
counter_in t clipped b m ok size e lt = let even = (sound t ok).even in omega (arith, size, lt, e)

-- ---- what tally judges: 5, then the call
leb_not_ltb : (a b : ℕ) → leb a b ≡ not (ltb b a)
leb_not_ltb a b = by_test (leb a b) (λ e. rw (e, le-ltb b a (leb-true a b e))) (λ e. rw (e, lt-ltb b a (leb-false a b e)))

not_or : (a b c : Bool) → not (a || b || c) ≡ (not a && not b && not c)
not_or true b c = refl
not_or false true c = refl
not_or false false c = refl

module _ (t : Settings) (ledger clipped buckets side : List ℕ) where
  pub valid_is : not (lookup_invalid (card_of t) (read_areas ledger clipped buckets side))
      ≡ (not (any (λ b. ltb t.top (counter clipped b)) (upto 0 (card_of t).buckets))
      && not (any (λ x. ltb t.room x && not (eqb x 255)) (marks (card_of t) buckets)) && leb (count_of side) t.side_places)
  unfolding lookup_invalid card_of
  valid_is =
      rw (leb_not_ltb (count_of side) t.side_places)
      (not_or (any (λ b. ltb t.top (counter clipped b)) (upto 0 (card_of t).buckets))
      (any (λ x. ltb t.room x && not (eqb x 255)) (marks (card_of t) buckets)) (ltb t.side_places (count_of side)))

  abbrev Tallied : Totals → Type 0
  Tallied x =
      ◌≡◌ {A = Step Areas} (record { reply = totalled x; state = read_areas ledger clipped buckets side })
      (perform t 0 tally (read_areas ledger clipped buckets side))

  abbrev lengths_right : Bool
  lengths_right = all (λ x. x) (eqb (length ledger) (ledger_length (card_of t)) ∷ lookup_lengths (card_of t) (read_areas ledger clipped buckets side))

  -- tally is `perform`'s, as soon as its answer is the refusal or what the areas give
  tally_performs : (x : Totals) → cond (not (allowed t)) (no_totals 1)
      (cond (not lengths_right) (no_totals 2) (tally_areas (card_of t) (read_areas ledger clipped buckets side))) ≡ x → Tallied x
  unfolding perform call lent_lengths
  tally_performs x e = rw (← e) (by_test (allowed t) (λ a. rw a (by_test lengths_right (λ l. rw l) (λ l. rw l))) (λ a. rw a))

  pub tally_1 : (x : Refusal) → Err x ≡ checked_of t → Tallied (no_totals (number_of x))
  tally_1 x e = let arm = refused_arm t (Err x) e x refl in tally_performs (no_totals (number_of x)) (rw (arm.0, arm.1))

  -- the settings are allowed, and the lengths are judged
  pub record JudgedLengths (s : settings.Settings) (lengths : Bool) : Type 0 where
    pub ok : allowed t ≡ true
    pub same : paper s ≡ t
    pub lengths_are : lengths_right ≡ lengths

  pub judged_by : (s : settings.Settings) → Ok s ≡ checked_of t → (u : ℕ) → u ≡ ledger_length (card s) → (right : Bool)
      → right ≡ all (λ x. x) (lookup_lengths (card s) (lookup_areas clipped buckets side)) → JudgedLengths s (eqb (length ledger) u && right)
  unfolding lookup_lengths
  judged_by s e u eu right er =
      let arm = allowed_arm t (Ok s) e s refl in record { ok = arm.0; same = arm.1; lengths_are = rw (eu, er, arm.1) }

  module _ {s : settings.Settings} {lengths : Bool} (c : JudgedLengths s lengths) where
    pub tally_2 : lengths ≡ false → Tallied (no_totals 2)
    tally_2 e = tally_performs (no_totals 2) (rw (c.ok, c.lengths_are, e))

    pub tally_on : lengths ≡ true → (x : Totals) → x ≡ tally_areas (card s) (read_areas ledger clipped buckets side) → Tallied x
    tally_on e x f = tally_performs x (rw (c.ok, c.lengths_are, e, f, c.same))

    pub tally_checked : lengths ≡ true → CheckedLookup (paper s) clipped buckets side × (length ledger ≡ ledger_length (card s))
    unfolding lookup_lengths
    tally_checked e =
        let right = c.lengths_are ∙ e in
        let first = eqb (length ledger) (ledger_length (card_of t)) in
        let others = all (λ x. x) (lookup_lengths (card_of t) (lookup_areas clipped buckets side)) in
        rw c.same (checked_lookup t clipped buckets side c.ok (and_right first others right), eqb-true _ _ (and_left first others right))
