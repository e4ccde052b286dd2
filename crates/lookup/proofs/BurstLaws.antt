-- Laws of a burst: a pass that stores a number for each key, the key that it is handed, and what the counters say, kept as one number.
use mathlib.Core.Path.{◌≡◌, refl, sym, ap, ◌∙◌}
use mathlib.Core.Bool.{true}
use mathlib.Core.List.{List, map}
use Prim.Native.Nat.{ℕ, ◌+◌, ◌*◌, ◌/◌, ◌%◌, ◌^◌, ◌≤◌, ◌<◌}
use native.Mathlib.Nat.{zero-add}
use native.Mathlib.Omega.{arith}
use lib.Dec.{eqb, ltb}
use borrow.Author.Tests.{eqb-true, eqb-false, ltb-true, ltb-false, le-ltb}
use lib.Pow.{pow_mono}
use lib.ListN.{length, drop, get_or, set, length-set, length-map, get_or-eq_default}
use lib.Seq.{get_or-take, get_or-drop, get_or-set_same, get_or-set_other, ext_get_or}
use Rattle.theory.specs.Lists.{filter, any, has, least, upto}
use Rattle.theory.specs.Hash.{numbers_of}
use Rattle.theory.specs.Settings as plain
use Rattle.theory.specs.Settings.{card_of}
use Rattle.theory.specs.Placing.{least_count, chosen}
use Rattle.theory.specs.Lookup.{Answer, counter, answer_at, driver_number}
use Rattle.theory.proofs.ListLaws.{by_test, length_upto, getD_map_upto, all_upto, map_cong, least_le}
use Rattle.theory.proofs.SettingsLaws.{ranges}
use Rattle.memory.proofs.SliceLaws.{length_part, row_fits}
use Rattle.hash.specs.Table.{table_lengths, TableFor, H_by}
use Rattle.std.specs.Prelude.{Option, None, Some, Err}
use Rattle.memory.specs.declared.refusals.Refusal.{Refusal}
use Rattle.memory.specs.Refusals.{number_of}
use Rattle.settings.specs.declared.Settings.{Settings}
use Rattle.settings.specs.Checked.{paper}
use Rattle.lookup.specs.declared.counters.KeyCounters.{KeyCounters}
use Rattle.lookup.specs.Choosing.{card_at, key_counters_at}
use Rattle.lookup.specs.Places.{CheckedLookup, KeyCountersFit, place_by}
use Rattle.lookup.specs.Bursts.{burst_key, per_key, judged_burst, packed_of, unpacked_of, CountersFit, ByPacked}
use Rattle.lookup.specs.Bursts.{number_by, number_at, burst_of}
use Rattle.lookup.specs.Answers.{search_of, search_with}
use Rattle.lookup.proofs.PlaceLaws.{key_counters_fit, place_by_is, places_of, search_is}
use Rattle.lookup.proofs.JudgeLaws.{lent_judged, UnrefusedBurst, unrefused_alone}
use Rattle.lookup.proofs.WithTableLaws.{with_ready, with_number}

-- ---- a number for each key: one of them, how many, and two alike
per_key_at : (f : ℕ → ℕ) (n j : ℕ) → j < n → get_or (per_key f n) j 0 ≡ f j
per_key_at f n j h = getD_map_upto f 0 n j 0 h ∙ ap f (zero-add j)

per_key_length : (f : ℕ → ℕ) (n : ℕ) → length (per_key f n) ≡ n
per_key_length f n = length-map (upto 0 n) f ∙ length_upto 0 n

per_key_same : (f g : ℕ → ℕ) (n : ℕ) → ((j : ℕ) → j < n → f j ≡ g j) → per_key f n ≡ per_key g n
per_key_same f g n e = map_cong f g (upto 0 n) (all_upto {P = λ j. f j ≡ g j} 0 n (λ j h. e j (omega arith)))

-- ---- a pass: the first i numbers are f's, the others as they were
pub record Passed (f : ℕ → ℕ) (before : List ℕ) (i : ℕ) (now : List ℕ) : Type 0 where
  pub few : i ≤ length before
  pub long : length now ≡ length before
  pub done : (j : ℕ) → j < i → get_or now j 0 ≡ f j
  pub left : (j : ℕ) → i ≤ j → get_or now j 0 ≡ get_or before j 0

module _ {f : ℕ → ℕ} {before : List ℕ} where
  pub passed_none : Passed f before 0 before
  passed_none = record { few = omega arith; long = refl; done = λ j h. absurd (omega arith); left = λ j h. refl }

  module _ {i : ℕ} {now : List ℕ} (so_far : Passed f before i now) where
    pub passed_more : (x : ℕ) → i < length now → x ≡ f i → Passed f before (i + 1) (set now i x)
    passed_more x h e =
        record {
          few = omega (arith, so_far.long);
          long = length-set now i x ∙ so_far.long;
          done = λ j lt. by_test (eqb j i)
              (λ q. let same : j ≡ i = eqb-true j i q in rw same (get_or-set_same now i x 0 h ∙ e))
              (λ q. let other = eqb-false j i q in get_or-set_other now i j x 0 other ∙ so_far.done j (omega (arith, other)));
          left = λ j le. get_or-set_other now i j x 0 (omega arith) ∙ so_far.left j (omega arith);
        }

    pub passed_all : length now ≤ i → now ≡ per_key f (length before)
    passed_all le =
        ext_get_or 0 now (per_key f (length before)) (so_far.long ∙ sym (per_key_length f (length before)))
        (λ j h. so_far.done j (omega arith) ∙ sym (per_key_at f (length before) j (omega (arith, so_far.long))))

-- ---- key i of n keys of w bytes lies inside, and has its width
pub key_within : (keys : List ℕ) (n w width i : ℕ) → length keys ≡ n * w → width ≡ w → i < n → i * width + width ≤ length keys
key_within keys n w width i size wide lt = rw (wide, size) (row_fits i n w lt)

-- ---- what the counters say, kept as one number and read back
same_counters : (c : KeyCounters) (l b : ℕ) → l ≡ c.least.0 → b ≡ c.bucket → ◌≡◌ {A = KeyCounters} (record { least = record { 0 = l }; bucket = b }) c
same_counters c l b p q = rw (p, q)

read_back : (c : Option KeyCounters) → CountersFit c → unpacked_of (packed_of c) ≡ c
read_back None fit = refl
read_back (Some c) fit =
    let few : c.least.0 < 65536 = fit.0 in
    let low : c.bucket < 65536 = fit.1 in
    let least : (c.least.0 * 65536 + c.bucket) % 4294967296 / 65536 ≡ c.least.0 = omega arith in
    let bucket : (c.least.0 * 65536 + c.bucket) % 65536 ≡ c.bucket = omega arith in
    rw (le-ltb 4294967295 (c.least.0 * 65536 + c.bucket) (omega arith)) (ap (λ (x : KeyCounters). Some x) (same_counters c _ _ least bucket))

module _ (t : plain.Settings) (ok : plain.allowed t ≡ true) (clipped : List ℕ) (h : ℕ) where
  pub at_small : CountersFit (key_counters_at t clipped h)
  unfolding key_counters_at least_count chosen card_at card_of
  at_small =
      let ns = numbers_of (2 ^ t.p) t.k h in
      let low = least t.top (map (counter clipped) ns) in
      let r = ranges t ok in
      let few : 2 ^ t.p ≤ 2 ^ 12 = pow_mono {j = 12} r.p_high in
      by_test (any (λ b. ltb t.top (counter clipped b)) ns) (λ a. rw a tt)
      (λ a. rw a (omega (arith, least_le t.top (map (counter clipped) ns)), omega (arith, least_le (2 ^ t.p) (filter (λ b. eqb (counter clipped b) low) ns))))

  at_back : unpacked_of (packed_of (key_counters_at t clipped h)) ≡ key_counters_at t clipped h
  at_back = read_back (key_counters_at t clipped h) at_small

  pub at_fits : KeyCountersFit t (unpacked_of (packed_of (key_counters_at t clipped h)))
  at_fits = rw at_back (key_counters_fit t h clipped ok)

  pub number_is : (buckets side key : List ℕ) → number_by t buckets side key (packed_of (key_counters_at t clipped h)) ≡ number_at t clipped buckets side key h
  unfolding number_by number_at
  number_is buckets side key =
      rw at_back (ap driver_number (search_is t h clipped buckets side key _ (place_by_is t h clipped ok key buckets side)))

-- the number of an answer that was found by a choice read back from x
pub number_from : (t : plain.Settings) (buckets side : List ℕ) (x : ℕ) {key lent : List ℕ} {r : ℕ} {c : Option KeyCounters} {a : Answer} → r ≡ driver_number a
    → a ≡ answer_at (card_of t) lent (place_by (card_of t) c buckets side) → lent ≡ key → c ≡ unpacked_of x → r ≡ number_by t buckets side key x
unfolding number_by
number_from t buckets side x is_number is-answer is_key is_choice = rw (is_number, is-answer, is_key, is_choice)

-- ---- the three passes, one after the other, over numbers h for n keys
module _ {t : plain.Settings} {clipped buckets side : List ℕ} (checked : CheckedLookup t clipped buckets side) (h : ℕ → ℕ) (n : ℕ) (hs packed : List ℕ)
    (hashed : hs ≡ per_key h n) (said : packed ≡ per_key (λ j. packed_of (key_counters_at t clipped (get_or hs j 0))) (length hs)) where
  packed_length : length packed ≡ n
  packed_length = ap length said ∙ per_key_length _ (length hs) ∙ ap length hashed ∙ per_key_length h n

  packed_at : (j : ℕ) → j < n → get_or packed j 0 ≡ packed_of (key_counters_at t clipped (h j))
  packed_at j lt =
      let size : length hs ≡ n = ap length hashed ∙ per_key_length h n in
      ap (λ (l : List ℕ). get_or l j 0) said
      ∙ per_key_at (λ i. packed_of (key_counters_at t clipped (get_or hs i 0))) (length hs) j (omega (arith, size))
      ∙ ap (λ (x : ℕ). packed_of (key_counters_at t clipped x)) (ap (λ (l : List ℕ). get_or l j 0) hashed ∙ per_key_at h n j lt)

  pub by_packed : (keys : List ℕ) → length keys ≡ n * (card_of t).width → ByPacked t buckets side keys packed
  by_packed keys size =
      record {
        checked = places_of checked;
        keys_size = rw packed_length size;
        fits = λ j lt. rw (packed_at j (omega (arith, packed_length))) (at_fits t checked.ok clipped (h j));
      }

  pub numbered : (keys : List ℕ) (numbers : List ℕ)
      → numbers ≡ per_key (λ j. number_by t buckets side (burst_key (card_of t).width keys j) (get_or packed j 0)) (length packed)
      → numbers ≡ per_key (λ j. number_at t clipped buckets side (burst_key (card_of t).width keys j) (h j)) n
  numbered keys numbers e =
      let w = (card_of t).width in
      e ∙ ap (per_key (λ j. number_by t buckets side (burst_key w keys j) (get_or packed j 0))) packed_length
      ∙ per_key_same _ _ n
      (λ j lt. ap (number_by t buckets side (burst_key w keys j)) (packed_at j lt) ∙ number_is t checked.ok clipped (h j) buckets side (burst_key w keys j))

-- ---- what a burst gives, by its judgement
pub burst_refused : (table : List ℕ) (t : plain.Settings) (clipped buckets side keys before : List ℕ) (n : Refusal)
    → judged_burst table t clipped buckets side keys (length before) ≡ Err n
    → record { number = number_of n; answers = before } ≡ burst_of table t clipped buckets side keys before
unfolding burst_of
burst_refused table t clipped buckets side keys before n e = rw e

-- the number of key j, under settings that are t
abbrev key_number : List ℕ → List ℕ → List ℕ → List ℕ → List ℕ → plain.Settings → ℕ → ℕ
key_number table clipped buckets side keys u j =
    number_at u clipped buckets side (burst_key (card_of u).width keys j) (H_by table (burst_key (card_of u).width keys j))

module _ {table : List ℕ} {t : plain.Settings} {clipped buckets side keys : List ℕ} (before : List ℕ) {c : Settings}
    (u : UnrefusedBurst table t clipped buckets side keys (length before) c) where
  pub burst_answered : (answers : List ℕ) → answers ≡ per_key (key_number table clipped buckets side keys (paper c)) (length before)
      → record { number = 0; answers = answers } ≡ burst_of table t clipped buckets side keys before
  unfolding burst_of
  burst_answered answers is =
      rw u.judged (ap (λ (x : List ℕ). record { number = 0; answers = x })
      (is ∙ ap (λ (v : plain.Settings). per_key (key_number table clipped buckets side keys v) (length before)) u.same))

  -- ---- each answer is the number of a search with its key alone
  abbrev key : ℕ → List ℕ
  key j = burst_key (card_of t).width keys j

  right_length : (j : ℕ) → j < length before → length (key j) ≡ (card_of t).width
  right_length j lt =
      let w = (card_of t).width in
      let size : length keys ≡ length before * w = u.keys_size ∙ ap (λ (v : plain.Settings). length before * (card_of v).width) u.same in
      length_part (j * w) w keys (key_within keys (length before) w w j size refl lt)

  table_long : has (length table) (table_lengths (card_of t).width) ≡ true
  table_long = rw u.same at u.table_size

  number_with : (j : ℕ) → j < length before
      → driver_number (search_with table t clipped buckets side (key j)) ≡ key_number table clipped buckets side keys t j
  unfolding number_at
  number_with j lt =
      let alone = unrefused_alone table t clipped buckets side keys (length before) c u.judged (key j) (right_length j lt) in
      let lent = lent_judged table t clipped buckets side (key j) table_long ∙ alone in
      sym (ap driver_number (with_ready table t clipped buckets side (key j) c lent t refl _ refl))

  -- on every table each answer is that of a search with it
  pub burst_with : burst_of table t clipped buckets side keys before
      ≡ record { number = 0; answers = per_key (λ j. driver_number (search_with table t clipped buckets side (key j))) (length before) }
  burst_with =
      sym (burst_answered _ (per_key_same _ (key_number table clipped buckets side keys t) (length before) number_with
      ∙ ap (λ (v : plain.Settings). per_key (key_number table clipped buckets side keys v) (length before)) (sym u.same)))

  -- with the right table it is the search door's number of its key
  module _ (right : TableFor (card_of t).width table) (bytes : (i : ℕ) → get_or keys i 0 < 256) where
    key_bytes : (j : ℕ) → j < length before → (i : ℕ) → get_or (key j) i 0 < 256
    key_bytes j lt i =
        let w = (card_of t).width in
        by_test (ltb i w)
        (λ e. rw (get_or-take w (drop (j * w) keys) i 0 (ltb-true i w e), get_or-drop (j * w) keys i 0) (bytes (j * w + i)))
        (λ e. let long = right_length j lt in rw (get_or-eq_default (key j) 0 {n = i} (omega (arith, long, ltb-false i w e))) (omega arith))

    pub burst_searches : burst_of table t clipped buckets side keys before
        ≡ record { number = 0; answers = per_key (λ j. search_of t clipped buckets side (key j)) (length before) }
    burst_searches =
        burst_with
        ∙ ap (λ (l : List ℕ). record { number = 0; answers = l })
        (per_key_same _ _ (length before) (λ j lt. with_number table t clipped buckets side (key j) table_long right (key_bytes j lt)))
