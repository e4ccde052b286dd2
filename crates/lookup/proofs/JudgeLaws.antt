-- Laws of what the searches judge first, and of what they then give: each is `perform`'s.
use mathlib.Core.Path.{◌≡◌, refl, sym, ap, ◌∙◌}
use mathlib.Core.Bool.{Bool, true, false, cond, not, ◌&&◌}
use mathlib.Core.List.{List, []}
use Prim.Native.Nat.{ℕ, ◌*◌, ◌/◌, ◌%◌, ◌≤◌, ◌<◌}
use native.Mathlib.Nat.{div-add-mod', mul-div_left, mul-mod_left}
use native.Mathlib.Omega.{arith}
use lib.Dec.{eqb}
use borrow.Author.Tests.{eqb-true, eqb-false, eq-eqb, ne_eqb}
use lib.ListN.{length}
use Rattle.theory.specs.Lists.{all, has}
use Rattle.theory.specs.Hash.{H}
use Rattle.theory.specs.Settings as plain
use Rattle.theory.specs.Settings.{KeyWidth, allowed, card_of}
use Rattle.theory.specs.Layout.{Areas}
use Rattle.theory.specs.Lookup.{Answer, bare, search_areas, fetch_areas, driver_number}
use Rattle.theory.specs.Ledger.{search, fetch, Step, answered, handed, key_wrong}
use Rattle.theory.specs.Calls.{call, lookup_lengths, lent_lengths, perform}
use Rattle.theory.proofs.ListLaws.{and_left, and_right, by_test, all_each}
use Rattle.theory.proofs.SettingsLaws.{width_from}
use Rattle.hash.specs.Table.{table_lengths}
use Rattle.std.specs.Prelude.{Result, Ok, Err}
use Rattle.memory.specs.declared.refusals.Refusal.{Refusal}
use Rattle.memory.specs.declared.refusals.Refusal.TheVariants.{SettingOutOfRange, WrongAreaLength, WrongKeyLength}
use Rattle.memory.specs.Refusals.{number_of}
use Rattle.settings.specs.declared.Settings.{Settings}
use Rattle.settings.specs.Checked.{paper, code, card, checked_of}
use Rattle.settings.proofs.Laws.{allowed_arm, refused_arm, key_width}
use Rattle.lookup.specs.Choosing.{card_at}
use Rattle.lookup.specs.Places.{CheckedLookup}
use Rattle.lookup.specs.Answers.{lookup_areas, driver_of, search_of, judged_areas, judged_of, judged_with_table}
use Rattle.lookup.specs.Bursts.{judged_burst}
use Rattle.lookup.proofs.PlaceLaws.{hashed}

-- ---- three tests in their order: 1, 2, 3, or what follows
abbrev judged_by : Bool → Bool → Bool → Settings → Result Settings Refusal
judged_by a l w s = cond (not a) (Err SettingOutOfRange) (cond (not l) (Err WrongAreaLength) (cond (not w) (Err WrongKeyLength) (Ok s)))

ready_by : (a l w : Bool) (s c : Settings) → judged_by a l w s ≡ Ok c → (a ≡ true) × (l ≡ true) × (w ≡ true) × (c ≡ s)
ready_by true true true s c e = (refl, refl, refl, cc)
ready_by true true false s c e = cc
ready_by true false w s c e = cc
ready_by false l w s c e = cc

refused_by : (a l w : Bool) (s : Settings) (x : Refusal) → judged_by a l w s ≡ Err x → {X : Type 0} (f : ℕ → X) (y : X)
    → (cond (not a) (f 1) (cond (not l) (f 2) (cond (not w) (f 3) y)) ≡ f (number_of x)) × (1 ≤ number_of x) × (number_of x ≤ 3)
refused_by true true true s x e f y = cc
refused_by true true false s x e f y =
    let is : WrongKeyLength ≡ x = cc in let q : 3 ≡ number_of x = ap number_of is in (ap f q, omega arith, omega arith)
refused_by true false w s x e f y =
    let is : WrongAreaLength ≡ x = cc in let q : 2 ≡ number_of x = ap number_of is in (ap f q, omega arith, omega arith)
refused_by false l w s x e f y =
    let is : SettingOutOfRange ≡ x = cc in let q : 1 ≡ number_of x = ap number_of is in (ap f q, omega arith, omega arith)

-- ---- the lengths of the lookup areas
module _ (t : plain.Settings) (clipped buckets side : List ℕ) where
  abbrev pub lengths_right : Bool
  lengths_right = all (λ x. x) (lookup_lengths (card_of t) (lookup_areas clipped buckets side))

  pub checked_lookup : allowed t ≡ true → lengths_right ≡ true → CheckedLookup t clipped buckets side
  unfolding lookup_lengths
  checked_lookup ok right =
      let h = all_each (λ x. x) (lookup_lengths (card_of t) (lookup_areas clipped buckets side)) right in
      record { ok = ok; clipped_size = eqb-true _ _ h.0; buckets_size = eqb-true _ _ h.1.0; side_size = eqb-true _ _ h.1.1.0 }

-- ---- keys of n times w bytes, judged by a division
module _ (w len n : ℕ) (some_width : 0 < w) where
  whole_keys : (eqb (len % w) 0 && eqb (len / w) n) ≡ eqb len (n * w)
  whole_keys =
      by_test (eqb len (n * w))
      (λ e. let is : len ≡ n * w = eqb-true len (n * w) e in rw (e, is, mul-mod_left n w, mul-div_left n some_width) (rw (eq-eqb n n refl)))
      (λ e. rw e (by_test (eqb (len % w) 0)
      (λ r. rw r (ne_eqb (len / w) n (λ q. eqb-false len (n * w) e (sym (div-add-mod' len w) ∙ rw (q, eqb-true (len % w) 0 r) (omega arith)))))
      (λ r. rw r)))

-- ---- what every search judges first, and what each judges then
two_refused : (a l : Bool) (s : Settings) (x : Refusal)
    → Err x ≡ cond (not a) (Err SettingOutOfRange) (cond (not l) (Err WrongAreaLength) (Ok s)) → (y : Result Settings Refusal)
    → Err x ≡ cond (not a) (Err SettingOutOfRange) (cond (not l) (Err WrongAreaLength) y)
two_refused true true s x e y = cc
two_refused true false s x e y = e
two_refused false l s x e y = e

two_ready : (a l : Bool) (s c : Settings) → Ok c ≡ cond (not a) (Err SettingOutOfRange) (cond (not l) (Err WrongAreaLength) (Ok s))
    → (a ≡ true) × (l ≡ true) × (c ≡ s)
two_ready true true s c e = (refl, refl, cc)
two_ready true false s c e = cc
two_ready false l s c e = cc

module _ (t : plain.Settings) (clipped buckets side : List ℕ) where
  abbrev judged : Result Settings Refusal
  judged = judged_areas t clipped buckets side

  pub setting_wrong : (x : Refusal) → Err x ≡ checked_of t → Err x ≡ judged
  unfolding judged_areas
  setting_wrong x e = let arm = refused_arm t (Err x) e x refl in rw (arm.0, arm.1)

  pub areas_wrong : (c : Settings) → Ok c ≡ checked_of t → lengths_right (paper c) clipped buckets side ≡ false → Err WrongAreaLength ≡ judged
  unfolding judged_areas
  areas_wrong c e l = let arm = allowed_arm t (Ok c) e c refl in rw (arm.0, rw arm.1 at l)

  pub areas_right : (c : Settings) → Ok c ≡ checked_of t → lengths_right (paper c) clipped buckets side ≡ true → Ok c ≡ judged
  unfolding judged_areas
  areas_right c e l = let arm = allowed_arm t (Ok c) e c refl in rw (arm.0, rw arm.1 at l) (rw arm.0 at e)

  -- ---- refused with 1 or 2
  module _ (x : Refusal) (e : Err x ≡ judged) where
    pub refused_alone : (key : List ℕ) → Err x ≡ judged_of t clipped buckets side key
    unfolding judged_areas judged_of
    refused_alone key = two_refused (allowed t) (lengths_right t clipped buckets side) (code t) x e _

    pub refused_lent : (table key : List ℕ) → Err x ≡ judged_with_table table t clipped buckets side key
    unfolding judged_areas judged_with_table judged_of
    refused_lent table key =
        by_test (allowed t)
        (λ a. by_test (lengths_right t clipped buckets side) (λ l. let e' = rw (a, l) at e in cc)
        (λ l. by_test (has (length table) (table_lengths (card_of t).width)) (λ h. rw (a, h, l) (rw (a, l) at e)) (λ h. rw (a, h) (rw (a, l) at e))))
        (λ a. rw a (rw a at e))

    pub refused_burst : (table keys : List ℕ) (n : ℕ) → Err x ≡ judged_burst table t clipped buckets side keys n
    unfolding judged_areas judged_burst
    refused_burst table keys n =
        by_test (allowed t)
        (λ a. by_test (lengths_right t clipped buckets side) (λ l. let e' = rw (a, l) at e in cc)
        (λ l. by_test (has (length table) (table_lengths (card_of t).width)) (λ h. rw (a, h, l) (rw (a, l) at e)) (λ h. rw (a, h) (rw (a, l) at e))))
        (λ a. rw a (rw a at e))

  -- ---- neither
  module _ (c : Settings) (e : Ok c ≡ judged) where
    ready : (allowed t ≡ true) × (lengths_right t clipped buckets side ≡ true) × (c ≡ code t)
    unfolding judged_areas
    ready = two_ready (allowed t) (lengths_right t clipped buckets side) (code t) c e

    same : paper c ≡ t
    same = ap paper ready.2

    pub ready_allowed : allowed (paper c) ≡ true
    ready_allowed = rw same ready.0

    width_same : (w : ℕ) → w ≡ (card c).width → w ≡ (card_of t).width
    width_same w is = is ∙ ap (λ (v : plain.Settings). (card_of v).width) same

    pub ready_width : (w : ℕ) → w ≡ (card c).width → KeyWidth w
    ready_width w is = key_width (paper c) ready_allowed is

    -- a key alone
    module _ (key : List ℕ) (w : ℕ) (is : w ≡ (card c).width) where
      pub key_length_wrong : (length key ≡ w → ⊥) → Err WrongKeyLength ≡ judged_of t clipped buckets side key
      unfolding judged_of
      key_length_wrong n = rw (ready.0, ready.1, ne_eqb (length key) (card_of t).width (λ q. n (q ∙ sym (width_same w is))))

      pub key_length_right : length key ≡ w → Ok c ≡ judged_of t clipped buckets side key
      unfolding judged_of
      key_length_right q = rw (ready.0, ready.1, eq-eqb (length key) (card_of t).width (q ∙ width_same w is)) (ap (λ (s : Settings). Ok s) ready.2)

    -- with a lent table
    module _ (table : List ℕ) (w : ℕ) (is : w ≡ (card c).width) where
      long_is : has (length table) (table_lengths (card_of t).width) ≡ has (length table) (table_lengths w)
      long_is = rw (width_same w is)

      pub table_wrong : has (length table) (table_lengths w) ≡ false → (key : List ℕ) → Err WrongAreaLength ≡ judged_with_table table t clipped buckets side key
      unfolding judged_with_table
      table_wrong h key = rw (ready.0, long_is ∙ h)

      pub table_fits : has (length table) (table_lengths w) ≡ true → (key : List ℕ)
          → judged_of t clipped buckets side key ≡ judged_with_table table t clipped buckets side key
      unfolding judged_with_table
      table_fits h key = rw (ready.0, long_is ∙ h)

      -- and many keys
      pub burst_table_wrong : has (length table) (table_lengths w) ≡ false → (keys : List ℕ) (n : ℕ)
          → Err WrongAreaLength ≡ judged_burst table t clipped buckets side keys n
      unfolding judged_burst
      burst_table_wrong h keys n = rw (ready.0, long_is ∙ h)

      module _ (h : has (length table) (table_lengths w) ≡ true) (keys : List ℕ) (n : ℕ) where
        some : 0 < w
        some = omega (arith, width_from w (ready_width w is))

        whole : eqb (length keys) (n * (card_of t).width) ≡ (eqb (length keys % w) 0 && eqb (length keys / w) n)
        whole = ap (λ (v : ℕ). eqb (length keys) (n * v)) (sym (width_same w is)) ∙ sym (whole_keys w (length keys) n some)

        pub keys_wrong : (eqb (length keys % w) 0 && eqb (length keys / w) n) ≡ false → Err WrongKeyLength ≡ judged_burst table t clipped buckets side keys n
        unfolding judged_burst
        keys_wrong q = rw (ready.0, long_is ∙ h, ready.1, whole ∙ q)

        pub keys_right : (eqb (length keys % w) 0 && eqb (length keys / w) n) ≡ true → Ok c ≡ judged_burst table t clipped buckets side keys n
        unfolding judged_burst
        keys_right q = rw (ready.0, long_is ∙ h, ready.1, whole ∙ q) (ap (λ (s : Settings). Ok s) ready.2)

-- ---- a call that is not refused: the settings are those of the numbers, the areas have their lengths, the key its width
pub record Unrefused (t : plain.Settings) (clipped buckets side key : List ℕ) (c : Settings) : Type 0 where
  pub judged : judged_of t clipped buckets side key ≡ Ok c
  pub same : paper c ≡ t
  pub checked : CheckedLookup (paper c) clipped buckets side
  pub wide : length key ≡ (card c).width

module _ (t : plain.Settings) (clipped buckets side key : List ℕ) where
  pub unrefused : (c : Settings) → judged_of t clipped buckets side key ≡ Ok c → Unrefused t clipped buckets side key c
  unfolding judged_of
  unrefused c e =
      let r = ready_by (allowed t) (lengths_right t clipped buckets side) (eqb (length key) (card_of t).width) (code t) c e in
      let same : paper c ≡ t = ap paper r.3 in
      record {
        judged = e;
        same = same;
        checked = rw same (checked_lookup t clipped buckets side r.0 r.1);
        wide = rw same (eqb-true (length key) (card_of t).width r.2);
      }

  -- 1, 2, 3, or x
  abbrev pub refused_or : {X : Type 0} → (ℕ → X) → X → X
  refused_or n x = cond (not (allowed t)) (n 1) (cond (not (lengths_right t clipped buckets side)) (n 2) (cond (key_wrong (card_of t) key) (n 3) x))

  pub refused_is : {X : Type 0} (f : ℕ → X) (x : X) (e : Refusal) → judged_of t clipped buckets side key ≡ Err e
      → (refused_or f x ≡ f (number_of e)) × (1 ≤ number_of e) × (number_of e ≤ 3)
  unfolding judged_of key_wrong
  refused_is f x n e = refused_by (allowed t) (lengths_right t clipped buckets side) (eqb (length key) (card_of t).width) (code t) n e f x

  -- ---- a search is `perform`'s, as soon as its answer is the refusal or what the areas give; likewise the second search call
  abbrev pub Searched : Answer → Type 0
  Searched x =
      ◌≡◌ {A = Step Areas} (record { reply = answered x; state = lookup_areas clipped buckets side })
      (perform t 0 (search key) (lookup_areas clipped buckets side))

  search_performs : (x : Answer) → refused_or bare (search_areas (card_of t) clipped buckets side key) ≡ x → Searched x
  unfolding perform call lent_lengths
  search_performs x e =
      rw (← e) (by_test (allowed t) (λ a. rw a (by_test (lengths_right t clipped buckets side) (λ l. rw l) (λ l. rw l))) (λ a. rw a))

  pub fetch_performs : (x : List ℕ) → refused_or (λ n. []) (fetch_areas (card_of t) clipped buckets side key) ≡ x
      → record { reply = handed x; state = lookup_areas clipped buckets side } ≡ perform t 0 (fetch key) (lookup_areas clipped buckets side)
  unfolding perform call lent_lengths
  fetch_performs x e =
      rw (← e) (by_test (allowed t) (λ a. rw a (by_test (lengths_right t clipped buckets side) (λ l. rw l) (λ l. rw l))) (λ a. rw a))

  pub search_refused : (n : Refusal) → judged_of t clipped buckets side key ≡ Err n → (x : Answer) → x ≡ bare (number_of n) → Searched x
  search_refused n e x is = search_performs x ((refused_is bare _ n e).0 ∙ sym is)

  -- its number
  pub search_number : (x : Answer) → Searched x → driver_number x ≡ search_of t clipped buckets side key
  unfolding search_of
  search_number x e = ap (λ (s : Step Areas). driver_of s.reply) e

module _ {t : plain.Settings} {clipped buckets side key : List ℕ} {c : Settings} (u : Unrefused t clipped buckets side key c) where
  pub passes : {X : Type 0} (f : ℕ → X) (x : X) → refused_or t clipped buckets side key f x ≡ x
  unfolding judged_of key_wrong
  passes f x =
      let r = ready_by (allowed t) (lengths_right t clipped buckets side) (eqb (length key) (card_of t).width) (code t) c u.judged in
      rw (r.0, r.1, r.2)

  -- the answer is that of the areas, by the key's own H
  pub search_answered : (h : ℕ) → h ≡ H key → (x : Answer) → x ≡ search_areas (card_at (paper c) h) clipped buckets side key
      → Searched t clipped buckets side key x
  search_answered h is-H x e =
      search_performs t clipped buckets side key x
      (passes bare _
      ∙ sym (e ∙ hashed (paper c) clipped buckets side key h is-H
      ∙ ap (λ (u : plain.Settings). search_areas (card_of u) clipped buckets side key) u.same))

-- ---- with a lent table, whose length is judged by the width of the code's settings
module _ (table : List ℕ) (t : plain.Settings) (clipped buckets side key : List ℕ) where
  abbrev long : Bool
  long = has (length table) (table_lengths (card_of t).width)

  pub lent_judged : long ≡ true → judged_with_table table t clipped buckets side key ≡ judged_of t clipped buckets side key
  unfolding judged_with_table judged_of
  lent_judged l = by_test (allowed t) (λ a. rw (a, l)) (λ a. rw a)

  pub lent_unrefused : (c : Settings) → judged_with_table table t clipped buckets side key ≡ Ok c
      → (long ≡ true) × Unrefused t clipped buckets side key c
  unfolding judged_with_table
  lent_unrefused c e =
      by_test (allowed t)
      (λ a. by_test long (λ l. (l, unrefused t clipped buckets side key c (rw (a, l) at e)))
      (λ l. let e' = rw (a, l) at e in cc))
      (λ a. let e' = rw a at e in cc)

  -- and the table is of a length to hash the key with
  pub lent_long : (c : Settings) → judged_with_table table t clipped buckets side key ≡ Ok c → has (length table) (table_lengths (length key)) ≡ true
  lent_long c e = let fine = lent_unrefused c e in rw (fine.1.wide, fine.1.same) fine.0

-- ---- a burst of n keys
pub record UnrefusedBurst (table : List ℕ) (t : plain.Settings) (clipped buckets side keys : List ℕ) (n : ℕ) (c : Settings) : Type 0 where
  pub judged : judged_burst table t clipped buckets side keys n ≡ Ok c
  pub same : paper c ≡ t
  pub checked : CheckedLookup (paper c) clipped buckets side
  pub table_size : has (length table) (table_lengths (card c).width) ≡ true
  pub keys_size : length keys ≡ n * (card c).width

module _ (table : List ℕ) (t : plain.Settings) (clipped buckets side keys : List ℕ) (n : ℕ) where
  burst_ready : (c : Settings) → judged_burst table t clipped buckets side keys n ≡ Ok c
      → (allowed t ≡ true) × (has (length table) (table_lengths (card_of t).width) ≡ true) × (lengths_right t clipped buckets side ≡ true)
      × (eqb (length keys) (n * (card_of t).width) ≡ true) × (c ≡ code t)
  unfolding judged_burst
  burst_ready c e =
      let long = has (length table) (table_lengths (card_of t).width) in
      let right = lengths_right t clipped buckets side in
      let r = ready_by (allowed t) (long && right) (eqb (length keys) (n * (card_of t).width)) (code t) c e in
      (r.0, and_left long right r.1, and_right long right r.1, r.2, r.3)

  pub unrefused_burst : (c : Settings) → judged_burst table t clipped buckets side keys n ≡ Ok c
      → UnrefusedBurst table t clipped buckets side keys n c
  unrefused_burst c e =
      let r = burst_ready c e in
      let same : paper c ≡ t = ap paper r.4 in
      record {
        judged = e;
        same = same;
        checked = rw same (checked_lookup t clipped buckets side r.0 r.2);
        table_size = rw same r.1;
        keys_size = rw same (eqb-true (length keys) (n * (card_of t).width) r.3);
      }

  -- each of its keys is not refused alone
  pub unrefused_alone : (c : Settings) → judged_burst table t clipped buckets side keys n ≡ Ok c → (key : List ℕ) → length key ≡ (card_of t).width
      → judged_of t clipped buckets side key ≡ Ok c
  unfolding judged_of
  unrefused_alone c e key wide =
      let r = burst_ready c e in rw (r.0, r.2, eq-eqb (length key) (card_of t).width wide, r.4)
