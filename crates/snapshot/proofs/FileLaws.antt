-- Laws of a file as it is read: its head, its settings, its second count, and the refusals that it decides alone.
use Rattle.std.specs.Prelude.{Ok, Err}
use mathlib.Core.Path.{◌≡◌, refl, sym, ap, ◌∙◌}
use mathlib.Core.Bool.{Bool, true, false, cond, not, ◌||◌, or-true}
use mathlib.Core.List.{List}
use Prim.Native.Nat.{ℕ, ◌+◌, ◌-◌, ◌*◌, ◌≤◌, ◌<◌}
use native.Mathlib.Nat.{le_trans, mul_comm, mul-le-mul, mul-le-mul_left}
use native.Mathlib.Omega.{arith}
use lib.Dec.{ltb, eqb}
use borrow.Author.Tests.{lt-ltb, le-ltb, ltb-false, eq-eqb, ne_eqb, eqb-true, not-false}
use lib.ListN.{length, take, drop, length-drop}
use Rattle.theory.specs.Settings as plain
use Rattle.theory.specs.Settings.{ipv4_width, card_of, allowed, record_size}
use Rattle.theory.specs.Records.{count_of, records, rising}
use Rattle.theory.specs.Snapshot.{settings_count, first_count, second_count_at, head_size, setting, file_settings, file_count, head_wrong, body_wrong}
use Rattle.theory.specs.Snapshot.{head_refusal}
use Rattle.theory.proofs.ListLaws.{by_test, or_left, or_right}
use Rattle.theory.proofs.SettingsLaws.{ranges}
use Rattle.settings.specs.declared.Settings.{Settings}
use Rattle.settings.specs.declared.Given.{Given}
use Rattle.memory.specs.declared.refusals.Refusal.{Refusal}
use Rattle.memory.specs.Refusals.{number_of}
use Rattle.memory.proofs.RefusalLaws.{refused_number}
use Rattle.settings.specs.Checked.{paper, given_of, checked_of}
use Rattle.settings.proofs.Laws.{bounds}
use Rattle.memory.proofs.SliceLaws.{tail_is}
use Rattle.writing.proofs.JudgedLaws.{Permitted}
use Rattle.snapshot.specs.declared.reading.Head.{Head}
use Rattle.snapshot.specs.Files.{HeadOf, HeadHanded, listed, by_file}

-- a test that failed, since the number is 0
passed : (t : Bool) (n m : ℕ) → 0 < n → cond t n m ≡ 0 → (t ≡ false) × (m ≡ 0)
passed true n m h e = absurd (omega arith)
passed false n m h e = (refl, e)

-- the bytes of records within the capacity
pub few_bytes : (t : plain.Settings) → allowed t ≡ true → (size n : ℕ) → size ≡ record_size (card_of t) → n ≤ t.capacity → size * n ≤ 167936
few_bytes t ok size n e h =
    let r = ranges t ok in rw e (le_trans (mul-le-mul (bounds t ok).record_most h) (mul-le-mul_left 41 r.capacity_high))

-- an allowed first count is 6 or 7
pub count_known : {n : ℕ} → not (eqb n 6 || eqb n settings_count) ≡ false → (6 ≤ n) × (n ≤ settings_count)
count_known {n} some =
    by_test (eqb n 6) (λ e. let six = eqb-true n 6 e in (omega (arith, six), omega (arith, six)))
    (λ e. let seven = eqb-true n settings_count (not-false _ (rw e at some)) in (omega (arith, seven), omega (arith, seven)))

module _ (f : List ℕ) where
  -- ---- the head
  pub head_cut : length f < 2 → head_wrong f ≡ true
  unfolding head_wrong
  head_cut h = rw (lt-ltb (length f) (head_size (count_of f)) (omega arith), or-true)

  pub head_unknown : {n : ℕ} → n ≡ count_of f → not (eqb n 6 || eqb n settings_count) ≡ true → head_wrong f ≡ true
  unfolding head_wrong
  head_unknown e none = let q = rw e at none in rw q

  pub head_by_length : {n : ℕ} → n ≡ count_of f → not (eqb n 6 || eqb n settings_count) ≡ false → {z : ℕ} → z ≡ head_size n
      → head_wrong f ≡ ltb (length f) z
  unfolding head_wrong
  head_by_length e some z_is = let q = rw e at some in rw (q, z_is, e)

  -- ---- a head that is there
  module _ (whole : head_wrong f ≡ false) where
    pub head_there : head_size (count_of f) ≤ length f
    unfolding head_wrong
    head_there = ltb-false (length f) (head_size (count_of f)) (or_right (not (eqb (count_of f) 6 || eqb (count_of f) settings_count)) _ whole)

    pub first_known : (6 ≤ count_of f) × (count_of f ≤ settings_count)
    unfolding head_wrong
    first_known = count_known (or_left (not (eqb (count_of f) 6 || eqb (count_of f) settings_count)) _ whole)

  -- ---- two bytes, read from a part that runs to the end
  pub number_lent : (at : ℕ) → at ≤ length f → {n : ℕ} → n ≡ count_of (take (length f - at) (drop at f)) → n ≡ count_of (drop at f)
  number_lent at h e = e ∙ rw (tail_is at f h)

  pub count_lent : {at : ℕ} → at ≡ second_count_at (count_of f) → at ≤ length f → {n : ℕ} → n ≡ count_of (take (length f - at) (drop at f))
      → n ≡ file_count f
  unfolding file_count
  count_lent {at} is h e = number_lent at h e ∙ ap (λ (k : ℕ). count_of (drop k f)) is

  pub width_of_six : {n : ℕ} → n ≡ count_of f → n ≡ 6 → ipv4_width ≡ (file_settings f).width
  unfolding file_settings
  width_of_six e six = rw (sym e ∙ six)

  pub width_of_seven : {n : ℕ} → n ≡ count_of f → (n ≡ 6 → ⊥) → {w : ℕ} → w ≡ setting f 6 → w ≡ (file_settings f).width
  unfolding file_settings
  width_of_seven {n} e other is = rw (← e, ne_eqb n 6 other) is

  pub settings_read : {p k room top capacity side_places width : ℕ} → p ≡ setting f 0 → k ≡ setting f 1 → room ≡ setting f 2 → top ≡ setting f 3
      → capacity ≡ setting f 4 → side_places ≡ setting f 5 → width ≡ (file_settings f).width
      → checked_of (plain.settings_of p k room top capacity side_places width) ≡ checked_of (file_settings f)
  unfolding file_settings
  settings_read e₁ e₂ e₃ e₄ e₅ e₆ e₇ = rw (e₁, e₂, e₃, e₄, e₅, e₆, e₇)

-- ---- the settings of a head, with an area of n numbers for them: each number, and what is handed back with it
module _ (f : List ℕ) (n : ℕ) where
  pub head_refused : (x : Refusal) → number_of x ≡ head_refusal f n → HeadHanded f n (Err x)
  head_refused x e = record { number = e; settings = rw (← e, ne_eqb (number_of x) 0 (refused_number x)) }

  pub head_12 : head_wrong f ≡ true → 12 ≡ head_refusal f n
  unfolding head_refusal
  head_12 e = rw e

  module _ (whole : head_wrong f ≡ false) where
    pub head_1 : allowed (file_settings f) ≡ false → 1 ≡ head_refusal f n
    unfolding head_refusal
    head_1 e = rw (whole, e)

    module _ {s : Settings} (p : Permitted (file_settings f) s) where
      pub head_2 : (n ≡ settings_count → ⊥) → 2 ≡ head_refusal f n
      unfolding head_refusal
      head_2 other = rw (whole, p.ok, ne_eqb n settings_count other)

      -- c, the first count of the file, and k, the one that its settings are saved with
      module _ (seven : n ≡ settings_count) {c k : ℕ} (is : c ≡ count_of f) (first : k ≡ first_count (paper s)) where
        pub head_12_first : (c ≡ k → ⊥) → 12 ≡ head_refusal f n
        unfolding head_refusal
        head_12_first other = rw (whole, p.ok, eq-eqb n settings_count seven, ← p.same, ← first, ← is, ne_eqb c k other)

        head_0 : c ≡ k → 0 ≡ head_refusal f n
        unfolding head_refusal
        head_0 same = rw (whole, p.ok, eq-eqb n settings_count seven, ← p.same, ← first, ← is, eq-eqb c k same)

        pub head_accepted : c ≡ k → {g : Given} → given_of g ≡ paper s → HeadHanded f n (Ok g)
        head_accepted same read = record { number = head_0 same; settings = rw (← head_0 same) (read ∙ p.same) }

-- ---- 8 and 12 under settings t, with what the head says
module _ (t : plain.Settings) {f : List ℕ} {h : Head} (of : HeadOf f h) where
  pub file_8 : t.capacity < h.count → 8 ≡ by_file t f
  unfolding by_file
  file_8 over = rw (← of.count, lt-ltb t.capacity h.count over)

  module _ (few : h.count ≤ t.capacity) where
    pub file_12_first : {c : ℕ} → c ≡ first_count t → (h.settings ≡ c → ⊥) → 12 ≡ by_file t f
    unfolding by_file body_wrong
    file_12_first {c} is other =
        rw (← of.count, ← of.settings, ← is, le-ltb t.capacity h.count few, ne_eqb h.settings c other)

    pub file_12 : {size : ℕ} → size ≡ record_size (card_of t) → (length f ≡ h.size + size * h.count → ⊥) → 12 ≡ by_file t f
    unfolding by_file body_wrong
    file_12 {size} sized other =
        rw (← of.count, ← sized, ← of.size, le-ltb t.capacity h.count few, ne_eqb (length f) (h.size + size * h.count) other, or-true)

-- ---- a file of the right length: n records of one size after the head
pub record FullFile (t : plain.Settings) (f : List ℕ) (h : Head) (size : ℕ) : Type 0 where
  pub head : HeadOf f h
  pub few : h.count ≤ t.capacity
  pub first : h.settings ≡ first_count t
  pub sized : size ≡ record_size (card_of t)
  pub long : length f ≡ h.size + size * h.count

module _ {t : plain.Settings} {f : List ℕ} {h : Head} {size : ℕ} (g : FullFile t f h size) where
  -- its records as they are lent
  lent_sized : length (take (length f - h.size) (drop h.size f)) ≡ record_size (card_of t) * h.count
  lent_sized = rw (tail_is h.size f (omega (arith, g.long)), length-drop, ← g.sized) (omega (arith, g.long))

  pub lent_full : length (take (length f - h.size) (drop h.size f)) ≡ h.count * ((card_of t).width + 4)
  unfolding record_size
  lent_full = lent_sized ∙ mul_comm ((card_of t).width + 4) h.count

  pub lent_fits : h.count * ((card_of t).width + 4) ≤ length (take (length f - h.size) (drop h.size f))
  lent_fits = omega (arith, lent_full)

  pub lent_listed : records (card_of t).width h.count (take (length f - h.size) (drop h.size f)) ≡ listed t f
  lent_listed = rw (tail_is h.size f (omega (arith, g.long)), g.head.count, g.head.size)

  -- 13, or 0, by whether their keys rise
  pub file_13_0 : {width : ℕ} → width ≡ (card_of t).width → {r : Bool}
      → r ≡ rising (records width h.count (take (length f - h.size) (drop h.size f))) → cond (not r) 13 0 ≡ by_file t f
  unfolding by_file body_wrong
  file_13_0 wide told =
      rw (told, wide, lent_listed, ← g.head.count, ← g.sized, ← g.head.size, ← g.head.settings)
      (rw (
        le-ltb t.capacity h.count g.few,
        eq-eqb h.settings (first_count t) g.first,
        eq-eqb (length f) (h.size + size * h.count) g.long,
      ))

-- where none of the refusals is given
pub full_file : (t : plain.Settings) {f : List ℕ} {h : Head} → HeadOf f h → by_file t f ≡ 0 → FullFile t f h (record_size (card_of t))
unfolding by_file body_wrong
full_file t {f} {h} of none =
    let c = count_of f in
    let few = passed (ltb t.capacity (file_count f)) 8 _ (omega arith) none in
    let right = passed (body_wrong t f) 12 _ (omega arith) few.1 in
    let first = eqb-true c (first_count t) (not-false _ (or_left (not (eqb c (first_count t))) _ right.0)) in
    let long = eqb-true (length f) _ (not-false _ (or_right (not (eqb c (first_count t))) _ right.0)) in
    record {
      head = of;
      few = rw of.count (ltb-false t.capacity (file_count f) few.0);
      first = of.settings ∙ first;
      sized = refl;
      long = rw (of.count, of.size) long;
    }
