-- Laws of settings: allowed settings make a sound card.
use mathlib.Core.Path.{◌≡◌}
use mathlib.Core.Bool.{true}
use mathlib.Core.Logic.{inl, inr}
use mathlib.Core.List.{List, [], map}
use Prim.Native.Nat.{ℕ, zero, suc, ◌*◌, ◌/◌, ◌%◌, ◌^◌, ◌≤◌, ◌<◌}
use native.Mathlib.Nat.{mod-lt}
use native.Mathlib.Omega.{arith}
use lib.Dec.{leb, eqb}
use lib.Pow.{pow_pos}
use borrow.Author.Tests.{leb-true, eqb-true}
use Rattle.theory.specs.Lists.{upto}
use Rattle.theory.specs.Hash.{H, hash, numbers_of}
use Rattle.theory.specs.Settings.{Settings, ipv4_width, ipv6_width, width_allowed, KeyWidth, in_range, in_ranges, allowed, Card, card_of}
use Rattle.theory.proofs.ListLaws.{by_test, All, all_every, all_each, all_of_map, and_left, and_right}
use Rattle.theory.proofs.BucketNumberLaws.{distinct, fresh_all, fresh_distinct}

-- the limits as facts
pub record Ranges (t : Settings) : Type 0 where
  pub p_low : 4 ≤ t.p
  pub p_high : t.p ≤ 12
  pub k_low : 1 ≤ t.k
  pub k_high : t.k ≤ 4
  pub room_low : 1 ≤ t.room
  pub room_high : t.room ≤ 4
  pub top_low : 2 ≤ t.top
  pub top_high : t.top ≤ 15
  pub capacity_low : 1 ≤ t.capacity
  pub capacity_high : t.capacity ≤ 4096
  pub side_high : t.side_places ≤ 64
  pub width_one : KeyWidth t.width
  pub width_low : ipv4_width ≤ t.width
  pub width_high : t.width ≤ ipv6_width

within_low : (low high n : ℕ) → in_range low high n ≡ true → low ≤ n
within_low low high n e = leb-true low n (and_left (leb low n) (leb n high) e)

within_high : (low high n : ℕ) → in_range low high n ≡ true → n ≤ high
within_high low high n e = leb-true n high (and_right (leb low n) (leb n high) e)

-- a width is one of the two, so it lies between them
pub width_of : (n : ℕ) → width_allowed n ≡ true → KeyWidth n
width_of n e = by_test (eqb n ipv4_width) (λ q. inl (eqb-true n ipv4_width q)) (λ q. inr (eqb-true n ipv6_width (rw q at e)))

pub width_from : (n : ℕ) → KeyWidth n → ipv4_width ≤ n
width_from n (inl e) = omega arith
width_from n (inr e) = omega arith

pub width_up_to : (n : ℕ) → KeyWidth n → n ≤ ipv6_width
width_up_to n (inl e) = omega arith
width_up_to n (inr e) = omega arith

pub ranges : (t : Settings) → allowed t ≡ true → Ranges t
unfolding allowed in_ranges
ranges t e =
    let h = all_each (λ x. x) (in_ranges t) e in
    let one = width_of t.width h.1.1.1.1.1.1.0 in
    record {
      p_low = within_low 4 12 t.p h.0;
      p_high = within_high 4 12 t.p h.0;
      k_low = within_low 1 4 t.k h.1.0;
      k_high = within_high 1 4 t.k h.1.0;
      room_low = within_low 1 4 t.room h.1.1.0;
      room_high = within_high 1 4 t.room h.1.1.0;
      top_low = within_low 2 15 t.top h.1.1.1.0;
      top_high = within_high 2 15 t.top h.1.1.1.0;
      capacity_low = within_low 1 4096 t.capacity h.1.1.1.1.0;
      capacity_high = within_high 1 4096 t.capacity h.1.1.1.1.0;
      side_high = within_high 0 64 t.side_places h.1.1.1.1.1.0;
      width_one = one;
      width_low = width_from t.width one;
      width_high = width_up_to t.width one;
    }

-- the limits as far as the laws of placing, layout and search need them
pub record Sound (s : Card) : Type 0 where
  pub even : s.buckets % 2 ≡ 0
  pub top_some : 0 < s.top
  pub top_four_bits : s.top ≤ 15
  pub room_small : s.room < 255
  pub capacity_small : s.capacity < 65536
  pub side_small : s.side_places < 65536
  pub numbers_below : (k : List ℕ) → All (λ b. b < s.buckets) (s.numbers k)

power_even : (p : ℕ) → 4 ≤ p → 2 ^ p % 2 ≡ 0
power_even zero h = absurd (omega arith)
power_even (suc p) h = omega arith

pub numbers_of_below : (m k h : ℕ) → 0 < m → All (λ b. b < m) (numbers_of m k h)
unfolding numbers_of hash
numbers_of_below m k h pos =
    fresh_all (λ b. b < m) [] (map (λ j. h / 2 ^ (16 * j) % m) (upto 0 k))
    (all_of_map (λ b. b < m) (λ j. h / 2 ^ (16 * j) % m) (upto 0 k) (all_every (λ j. mod-lt (h / 2 ^ (16 * j)) pos) (upto 0 k)))

pub numbers_of_distinct : (m k h : ℕ) → distinct (numbers_of m k h) ≡ true
unfolding numbers_of
numbers_of_distinct m k h = fresh_distinct [] (map (λ j. hash m h j) (upto 0 k))

pub sound : (t : Settings) → allowed t ≡ true → Sound (card_of t)
unfolding card_of
sound t e =
    let r = ranges t e in
    record {
      even = power_even t.p r.p_low;
      top_some = omega (arith, r.top_low);
      top_four_bits = r.top_high;
      room_small = omega (arith, r.room_high);
      capacity_small = omega (arith, r.capacity_high);
      side_small = omega (arith, r.side_high);
      numbers_below = λ key. numbers_of_below (2 ^ t.p) t.k (H key) (pow_pos t.p);
    }
