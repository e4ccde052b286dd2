-- Laws of the loop over a key's counters: a counter above T, and that the least rank is the choice of the definition.
use mathlib.Core.Path.{◌≡◌, refl, sym, ◌∙◌}
use mathlib.Core.Bool.{true, cond, ◌||◌}
use mathlib.Core.List.{List, [], map}
use Prim.Native.Nat.{ℕ, ◌+◌, ◌*◌, ◌/◌, ◌%◌, ◌^◌, ◌≤◌, ◌<◌, min}
use native.Mathlib.Nat.{mod-lt}
use native.Mathlib.Omega.{arith}
use lib.ListN.{length}
use lib.Dec.{ltb}
use lib.Pow.{pow_pos, pow_mono}
use borrow.Author.Tests.{ltb-true, ltb-false, lt-ltb, le-ltb}
use Rattle.theory.specs.Lists.{any, least}
use Rattle.theory.specs.Hash.{hash, hashes}
use Rattle.theory.specs.Settings.{Settings, allowed, card_of, clipped_length}
use Rattle.theory.specs.Lookup.{counter}
use Rattle.theory.proofs.SettingsLaws.{ranges, sound}
use Rattle.theory.proofs.ListLaws.{by_test}
use Rattle.theory.proofs.RankLaws.{any_numbers, rank, rank_least, rank_chosen}
use Rattle.theory.proofs.RankLaws.{rest_start, rest_next, rest_hash, any_again, any_end, best_again, best_end}
use Rattle.std.specs.Prelude.{None, Some}
use Rattle.settings.specs.declared.counts.ClippedCount.{ClippedCount}
use Rattle.lookup.specs.Choosing.{card_at, key_counters_at, CountersOf}
use Rattle.lookup.specs.declared.counters.KeyCounters.{KeyCounters}

-- the greater of two is above when one is
pub above_higher : (top count most : ℕ) → ltb top (cond (ltb count most) most count) ≡ (ltb top most || ltb top count)
above_higher top count most =
    by_test (ltb count most)
    (λ e. let lt = ltb-true count most e in
    rw e (by_test (ltb top most) (λ f. rw f) (λ f. let le = ltb-false top most f in rw (f, le-ltb top count (omega arith)))))
    (λ e. let le = ltb-false count most e in
    rw e (by_test (ltb top most) (λ f. let lt = ltb-true top most f in rw (f, lt-ltb top count (omega arith))) (λ f. rw f)))

-- ---- at hash j: what is found so far, joined with the hashes from j on, is what all hashes give
pub record SoFar (top k m h : ℕ) (clipped : List ℕ) (rest most best best₀ j : ℕ) : Type 0 where
  pub few : j ≤ k
  pub low : best ≤ best₀
  pub rest_is : rest ≡ h / 2 ^ (16 * j)
  pub above : (ltb top most || any (λ b. ltb top (counter clipped b)) (hashes m h j k)) ≡ any (λ b. ltb top (counter clipped b)) (hashes m h 0 k)
  pub ranked : least best (map (rank (counter clipped)) (hashes m h j k)) ≡ least best₀ (map (rank (counter clipped)) (hashes m h 0 k))

pub so_far_start : {top k m h : ℕ} {clipped : List ℕ} (most : ℕ) {best : ℕ} → most ≡ 0 → SoFar top k m h clipped h most best best 0
so_far_start {top} {h = h} most e =
    record { few = omega arith; low = omega arith; rest_is = rest_start h; above = rw (le-ltb top most (omega arith)); ranked = refl }

module _ {top k m h : ℕ} {clipped : List ℕ} {rest most best best₀ j : ℕ} (f : SoFar top k m h clipped rest most best best₀ j) where
  pub is_hash : rest % m ≡ hash m h j
  is_hash = rest_hash m h j rest f.rest_is

  pub so_far_next : j < k → {count : ℕ} → count ≡ counter clipped (rest % m) → {most' best' : ℕ} → most' ≡ cond (ltb count most) most count
      → best' ≡ min (count * 65536 + rest % m) best → SoFar top k m h clipped (rest / 65536) most' best' best₀ (j + 1)
  so_far_next lt {count} read higher lower =
      record {
        few = omega arith;
        low = omega (arith, lower, f.low);
        rest_is = rest_next h j rest f.rest_is;
        above = rw (higher, above_higher top count most, read)
            (any_again m h j k (λ x. ltb top (counter clipped x)) (ltb top most) f.above (rest % m) is_hash lt);
        ranked = rw (lower, read) (best_again m h j k (counter clipped) best f.ranked (rest % m) is_hash lt);
      }

-- the counters of m buckets
pub record Counters (t : Settings) (clipped : List ℕ) (m : ℕ) : Type 0 where
  pub ok : allowed t ≡ true
  pub size : length clipped ≡ clipped_length (card_of t)
  pub m_is : m ≡ 2 ^ t.p

module _ {t : Settings} {clipped : List ℕ} {m : ℕ} (g : Counters t clipped m) where
  -- the counter of a hash is there
  pub counter_there : (h j b : ℕ) → b ≡ hash m h j → b / 2 < length clipped
  unfolding clipped_length card_of hash
  counter_there h j b e =
      let lt : b < 2 ^ t.p = rw (e, g.m_is) (mod-lt (h / 2 ^ (16 * j)) (pow_pos t.p)) in
      let even = (sound t g.ok).even in omega (arith, g.size)

  -- all hashes are read
  pub read_of : {h rest most best j : ℕ} → SoFar t.top t.k m h clipped rest most best (t.top * 65536 + m) j → t.k ≤ j
      → CountersOf t h clipped (record { 0 = most }) (record { least = record { 0 = best / 65536 }; bucket = best % 65536 })
  unfolding card_at card_of
  read_of {h} {rest} {most} {best} {j} f le =
      let few : 2 ^ t.p ≤ 2 ^ 12 = pow_mono {j = 12} (ranges t g.ok).p_high in
      let seen = any_end m h j t.k (λ x. ltb t.top (counter clipped x)) (ltb t.top most) f.above le in
      let low = rw g.m_is at (best_end m h j t.k (counter clipped) best f.ranked le) in
      record {
        above = rw g.m_is at seen ∙ sym (any_numbers (λ x. ltb t.top (counter clipped x)) (2 ^ t.p) t.k h);
        least = λ key. rank_least (card_at t h) (counter clipped) t.k h best (pow_pos t.p) (omega arith) low key refl;
        bucket = λ key. rank_chosen (card_at t h) (counter clipped) t.k h best (pow_pos t.p) (omega arith) low key refl;
      }

-- what is read is what the counters say
pub choice_is : {t : Settings} {h : ℕ} {clipped : List ℕ} {greatest : ClippedCount} {r : KeyCounters} → CountersOf t h clipped greatest r
    → key_counters_at t clipped h ≡ cond (ltb t.top greatest.0) None (Some r)
unfolding key_counters_at
choice_is f = rw (← f.above, ← f.least [], ← f.bucket [])
