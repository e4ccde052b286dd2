-- `lookup::counters::read_counters` meets its contract: the least rank is the choice of the definition.
use Rattle.std.proofs.Common.{◌≡◌, ◌∙◌, ◌%◌, ◌<◌, ◌≤◌, ℕ, List, length, arith, true}
use native.Mathlib.Nat.{mod-lt}
use Rattle.theory.specs.Settings as plain
use Rattle.theory.specs.Settings.{allowed, card_of, clipped_length}
use Rattle.theory.proofs.SettingsLaws.{ranges}
use Rattle.settings.specs.Checked.{paper}
use Rattle.settings.proofs.Laws.{buckets_are, bounds}
use Rattle.lookup.proofs.CounterLaws.{Counters, so_far_start, so_far_next, is_hash, counter_there, read_of}
use Rattle.lookup.proofs.counters.read_counters.Goals as goal

-- ---- the settings are allowed
module _ (t : plain.Settings) (clipped : List ℕ) (m : ℕ) (ok : allowed t ≡ true) (size : length clipped ≡ clipped_length (card_of t))
    (is : m ≡ (card_of t).buckets) where
  m_small : (m ≤ 4096) × (16 ≤ m)
  m_small = let b = bounds t ok in (omega (arith, is), omega (arith, is))

  all : Counters t clipped m
  all = record { ok = ok; size = size; m_is = is ∙ buckets_are t }

  top_small : t.top ≤ 15
  top_small = let r = ranges t ok in omega arith

  below : (rest : ℕ) → rest % m < 4096
  below rest =
      let some : 0 < m = omega (arith, m_small.1) in omega (arith, mod-lt rest some, m_small.0)

pub overflow_mul-best : goal.overflow_mul-best
overflow_mul-best c = omega (arith, top_small (paper c.args.s) c.args.clipped.now c.buckets-m.result c.requires.0 c.requires.1 c.buckets-m.ensures)

pub overflow_add-best : goal.overflow_add-best
overflow_add-best c =
    omega (
      arith,
      top_small (paper c.args.s) c.args.clipped.now c.buckets-m.result c.requires.0 c.requires.1 c.buckets-m.ensures,
      m_small (paper c.args.s) c.args.clipped.now c.buckets-m.result c.requires.0 c.requires.1 c.buckets-m.ensures,
    )

pub loop-j-init : goal.loop-j-init
loop-j-init c = so_far_start _ c.zero-most.ensures

pub nonzero_rem-b : goal.nonzero_rem-b
nonzero_rem-b c = omega (arith, m_small (paper c.args.s) c.args.clipped.now c.buckets-m.result c.requires.0 c.requires.1 c.buckets-m.ensures)

pub counter-count-requires : goal.counter-count-requires
counter-count-requires c =
    counter_there (all (paper c.args.s) c.args.clipped.now c.buckets-m.result c.requires.0 c.requires.1 c.buckets-m.ensures)
    c.args.h c.loop-j.j _ (is_hash c.loop-j.invariant)

-- a rank takes any number below 65536: a bucket's is, and so is a hash's, so that what is ranked is the loop's law alone
pub rank-requires : goal.rank-requires
rank-requires c = (
  omega (arith, c.counter-count.ensures.1),
  omega (
    arith,
    below (paper c.args.s) c.args.clipped.now c.buckets-m.result c.requires.0 c.requires.1 c.buckets-m.ensures c.loop-j.rest,
    c.loop-j-test.true,
    (ranges (paper c.args.s) c.requires.0).k_high,
  ),
)

pub loop-j-preserved : goal.loop-j-preserved
loop-j-preserved c =
    so_far_next c.loop-j.invariant (omega arith) c.counter-count.ensures.0 c.higher-most.ensures
    (grind (arith, m_small (paper c.args.s) c.args.clipped.now c.buckets-m.result c.requires.0 c.requires.1 c.buckets-m.ensures))

pub returns : goal.returns
returns c =
    read_of (all (paper c.args.s) c.args.clipped.now c.buckets-m.result c.requires.0 c.requires.1 c.buckets-m.ensures) c.loop-j.invariant c.loop-j-test.false
