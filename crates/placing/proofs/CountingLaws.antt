-- What the loops that count ask: what passes a test, with one element more, and a count raised once for each bucket number of a key.
-- By the last element of a list that grows at its end.
use mathlib.Core.Path.{◌≡◌}
use mathlib.Core.Bool.{cond, ◌||◌, or-false}
use mathlib.Core.List.{List, map, map-append}
use Prim.Native.Nat.{ℕ, ◌+◌, ◌-◌, ◌<◌}
use native.Mathlib.Nat.{add-zero}
use native.Mathlib.Omega.{arith}
use lib.Dec.{eqb}
use borrow.Author.Tests.{eqb-true, eqb-false}
use lib.ListN.{length, get_or, set}
use lib.Seq.{get_or-set_same, get_or-set_other}
use Rattle.theory.specs.Lists.{has, upto}
use Rattle.theory.specs.Hash.{hash, hashes}
use Rattle.theory.proofs.ListLaws.{by_test}
use Rattle.theory.proofs.GrowingLaws.{upto_more, any_last}
use Rattle.placing.specs.Worked.{nth}

-- ---- a count raised
pub raise : (c : List ℕ) (x v : ℕ) → x < length c → (b : ℕ) → nth (set c x (nth c x + v)) b ≡ nth c b + cond (eqb b x) v 0
raise c x v h b =
    by_test (eqb b x) (λ q. let bx : b ≡ x = eqb-true b x q in rw (q, bx, get_or-set_same c x (get_or c x 0 + v) 0 h))
    (λ q. rw (q, get_or-set_other c x b (get_or c x 0 + v) 0 (eqb-false b x q), add-zero))

-- ---- the counts of the first j hashes, each raised once
has_next : (b m h j : ℕ) → has b (hashes m h 0 (j + 1)) ≡ (has b (hashes m h 0 j) || eqb b (hash m h j))
has_next b m h j =
    let now : j - 0 ≡ j = omega arith in
    let next : j + 1 - 0 ≡ j + 1 = omega arith in
    rw (now, next, upto_more j, map-append) (any_last (eqb b) (map (λ i. hash m h i) (upto 0 j)) (hash m h j))

pub record Raised (m h j : ℕ) (old c : List ℕ) : Type 0 where
  pub each : (b : ℕ) → nth c b ≡ nth old b + cond (has b (hashes m h 0 j)) 1 0

module _ {m h j : ℕ} {old c : List ℕ} (so_far : Raised m h j old c) where
  -- hash j, x, adds v: 0 where it repeats an earlier one
  pub raise_next : (x v w : ℕ) → x ≡ hash m h j → v ≡ cond (has x (hashes m h 0 j)) 0 1 → w ≡ nth c x + v → x < length c
      → Raised m h (j + 1) old (set c x w)
  raise_next x v w is_hash v-is w_is there = record {
    each = λ b. rw (w_is, has_next b m h j, ← is_hash, raise c x v there b, so_far.each b, v-is)
        (by_test (eqb b x) (λ q. rw (q, eqb-true b x q) (by_test (has x (hashes m h 0 j)) (λ e. rw e (omega arith)) (λ e. rw e (omega arith))))
        (λ q. rw (q, or-false, add-zero)));
  }
