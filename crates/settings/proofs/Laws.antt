-- What callers cite: what `Settings::new` tells in each arm, what the sizes and lengths are, and their bounds.
-- The first by the two values of the test, the second by unfolding, the third from the ranges.
use mathlib.Core.Path.{◌≡◌, refl, sym, ap, ◌∙◌}
use mathlib.Core.Bool.{Bool, true, false, cond}
use Prim.Native.Nat.{ℕ, ◌+◌, ◌*◌, ◌/◌, ◌%◌, ◌^◌, ◌≤◌, ◌<◌}
use native.Mathlib.Nat.{suc-mul, mul-le-mul, mul-le-mul_right}
use native.Mathlib.Omega.{arith}
use lib.Pow.{pow_mono}
use Rattle.theory.specs.Settings as plain
use Rattle.theory.specs.Settings.{allowed, card_of, record_size, bucket_size, ledger_length, true_length, clipped_length, buckets_length, side_length}
use Rattle.theory.specs.Settings.{work_length, ipv6_width, KeyWidth}
use Rattle.theory.specs.Records.{class_width}
use Rattle.theory.proofs.SettingsLaws.{ranges, sound}
use Rattle.std.specs.Prelude.{Result, Ok, Err}
use Rattle.memory.specs.declared.refusals.Refusal.{Refusal}
use Rattle.memory.specs.declared.refusals.Refusal.TheVariants.{SettingOutOfRange}
use Rattle.settings.specs.declared.Settings.{Settings}
use Rattle.settings.specs.Checked.{paper, code, checked_of}

-- ---- the constructor's two answers
module _ (t : plain.Settings) (r : Result Settings Refusal) (answered : r ≡ checked_of t) where
  pub allowed_arm : (c : Settings) → r ≡ Ok c → (allowed t ≡ true) × (paper c ≡ t)
  allowed_arm c arm = go (allowed t) (sym arm ∙ answered)
    where
      go : (b : Bool) → Ok c ≡ cond b (Ok (code t)) (Err SettingOutOfRange) → (b ≡ true) × (paper c ≡ t)
      go true e = let same : c ≡ code t = cc in (refl, ap paper same)
      go false e = cc

  pub refused_arm : (x : Refusal) → r ≡ Err x → (allowed t ≡ false) × (x ≡ SettingOutOfRange)
  refused_arm x arm = go (allowed t) (sym arm ∙ answered)
    where
      go : (b : Bool) → Err x ≡ cond b (Ok (code t)) (Err SettingOutOfRange) → (b ≡ false) × (x ≡ SettingOutOfRange)
      go true e = cc
      go false e = (refl, cc)

  -- what each method requires
  pub allowed_settings : (c : Settings) → r ≡ Ok c → allowed (paper c) ≡ true
  allowed_settings c arm = let l = allowed_arm c arm in ap allowed l.1 ∙ l.0

-- ---- the card of settings, its sizes and its lengths
module _ (t : plain.Settings) where
  pub width_is : (card_of t).width ≡ t.width
  unfolding card_of
  width_is = refl

  -- a key of the width is an IPv4 flow's or an IPv6 flow's
  pub key_width : allowed t ≡ true → {n : ℕ} → n ≡ (card_of t).width → KeyWidth n
  key_width ok e = rw (e, width_is) (ranges t ok).width_one

  pub buckets_are : (card_of t).buckets ≡ 2 ^ t.p
  unfolding card_of
  buckets_are = refl

  pub room_is : (card_of t).room ≡ t.room
  unfolding card_of
  room_is = refl

  pub top_is : (card_of t).top ≡ t.top
  unfolding card_of
  top_is = refl

  pub capacity_is : (card_of t).capacity ≡ t.capacity
  unfolding card_of
  capacity_is = refl

  pub side_places_are : (card_of t).side_places ≡ t.side_places
  unfolding card_of
  side_places_are = refl

  pub record_size_is : record_size (card_of t) ≡ t.width + class_width
  unfolding record_size card_of
  record_size_is = refl

  pub bucket_size_is : bucket_size (card_of t) ≡ 1 + record_size (card_of t) * t.room
  unfolding bucket_size card_of
  bucket_size_is = refl

  pub ledger_length_is : ledger_length (card_of t) ≡ 2 + record_size (card_of t) * t.capacity
  unfolding ledger_length card_of
  ledger_length_is = refl

  pub true_length_is : true_length (card_of t) ≡ (card_of t).buckets
  unfolding true_length
  true_length_is = refl

  pub clipped_length_is : clipped_length (card_of t) ≡ (card_of t).buckets / 2
  unfolding clipped_length
  clipped_length_is = refl

  pub buckets_length_is : buckets_length (card_of t) ≡ (card_of t).buckets * bucket_size (card_of t)
  unfolding buckets_length
  buckets_length_is = refl

  pub side_length_is : side_length (card_of t) ≡ 2 + record_size (card_of t) * t.side_places
  unfolding side_length card_of
  side_length_is = refl

  pub work_length_is : work_length (card_of t) ≡ 2 * (card_of t).buckets
  unfolding work_length
  work_length_is = refl

  -- bucket b's part lies in the bucket area
  pub bucket_within : (b : ℕ) → b < (card_of t).buckets → b * bucket_size (card_of t) + bucket_size (card_of t) ≤ buckets_length (card_of t)
  bucket_within b h = rw (buckets_length_is, ← suc-mul) (mul-le-mul_right (bucket_size (card_of t)) h)

  -- the least and the most that the ranges leave
  pub record Bounds : Type 0 where
    pub buckets_least : 16 ≤ (card_of t).buckets
    pub buckets_most : (card_of t).buckets ≤ 4096
    pub buckets_even : (card_of t).buckets % 2 ≡ 0
    pub width_most : (card_of t).width ≤ ipv6_width
    pub record_least : 17 ≤ record_size (card_of t)
    pub record_most : record_size (card_of t) ≤ 41
    pub bucket_size_least : 18 ≤ bucket_size (card_of t)
    pub bucket_size_most : bucket_size (card_of t) ≤ 165
    pub ledger_least : 19 ≤ ledger_length (card_of t)
    pub ledger_most : ledger_length (card_of t) ≤ 167938
    pub true_most : true_length (card_of t) ≤ 4096
    pub clipped_most : clipped_length (card_of t) ≤ 2048
    pub buckets_length_most : buckets_length (card_of t) ≤ 675840
    pub side_least : 2 ≤ side_length (card_of t)
    pub side_most : side_length (card_of t) ≤ 2626
    pub work_most : work_length (card_of t) ≤ 8192

  pub bounds : allowed t ≡ true → Bounds
  bounds e =
      let limits = ranges t e in
      let least : 16 ≤ (card_of t).buckets = rw buckets_are (pow_mono {i = 4} limits.p_low) in
      let most : (card_of t).buckets ≤ 4096 = rw buckets_are (pow_mono {j = 12} limits.p_high) in
      let wide : (card_of t).width ≤ ipv6_width = rw width_is limits.width_high in
      let small : 17 ≤ record_size (card_of t) = rw record_size_is (omega (arith, limits.width_low)) in
      let large : record_size (card_of t) ≤ 41 = rw record_size_is (omega (arith, limits.width_high)) in
      let room_least : 17 * 1 ≤ record_size (card_of t) * t.room = mul-le-mul small limits.room_low in
      let room_most : record_size (card_of t) * t.room ≤ 41 * 4 = mul-le-mul large limits.room_high in
      let capacity_least : 17 * 1 ≤ record_size (card_of t) * t.capacity = mul-le-mul small limits.capacity_low in
      let capacity_most : record_size (card_of t) * t.capacity ≤ 41 * 4096 = mul-le-mul large limits.capacity_high in
      let side_most : record_size (card_of t) * t.side_places ≤ 41 * 64 = mul-le-mul large limits.side_high in
      let size : bucket_size (card_of t) ≤ 165 = rw bucket_size_is (omega (arith, room_most)) in
      record {
        buckets_least = least;
        buckets_most = most;
        buckets_even = (sound t e).even;
        width_most = wide;
        record_least = small;
        record_most = large;
        bucket_size_least = rw bucket_size_is (omega (arith, room_least));
        bucket_size_most = size;
        ledger_least = rw ledger_length_is (omega (arith, capacity_least));
        ledger_most = rw ledger_length_is (omega (arith, capacity_most));
        true_most = rw true_length_is most;
        clipped_most = rw clipped_length_is (omega arith);
        buckets_length_most = rw buckets_length_is (mul-le-mul most size);
        side_least = rw side_length_is (omega arith);
        side_most = rw side_length_is (omega (arith, side_most));
        work_most = rw work_length_is (omega arith);
      }
