-- `placing::counting::raise_at` meets its contract: after j hashes each count is one more where its bucket is one of them.
use mathlib.Core.Path.{◌≡◌, refl, ap, ◌∙◌}
use mathlib.Core.Bool.{Bool, cond}
use native.Mathlib.Omega.{arith}
use Rattle.std.proofs.Common.{ℕ, ◌+◌}
use Rattle.theory.proofs.RankLaws.{rest_hash}
use Rattle.placing.proofs.ReadyLaws.{few}
use Rattle.settings.specs.Checked.{paper}
use Rattle.placing.proofs.CountingLaws.{raise_next}
use Rattle.placing.proofs.ReadyLaws.{has_hashes}
use Rattle.placing.proofs.counting.raise_at.Goals as goal

pub overflow_mul-b : goal.overflow_mul-b
overflow_mul-b c = let f = few _ c.requires.ok _ c.buckets-m.ensures in omega arith

pub overflow_shr-b : goal.overflow_shr-b
overflow_shr-b c = let f = few _ c.requires.ok _ c.buckets-m.ensures in omega arith

pub nonzero_rem-b : goal.nonzero_rem-b
nonzero_rem-b c = let f = few _ c.requires.ok _ c.buckets-m.ensures in omega arith

pub repeats-requires : goal.repeats-requires
repeats-requires c = let f = few _ c.requires.ok _ c.buckets-m.ensures in omega arith

pub offset_bounds-counts-at : goal.offset_bounds-counts-at
offset_bounds-counts-at c = let f = few _ c.requires.ok _ c.buckets-m.ensures in omega arith

pub bounds-counts-at : goal.bounds-counts-at
bounds-counts-at c = let f = few _ c.requires.ok _ c.buckets-m.ensures in omega arith

pub offset_bounds-counts-at-in-loop-j : goal.offset_bounds-counts-at-in-loop-j
offset_bounds-counts-at-in-loop-j c = let f = few _ c.requires.ok _ c.buckets-m.ensures in omega arith

pub bounds-counts-at-in-loop-j : goal.bounds-counts-at-in-loop-j
bounds-counts-at-in-loop-j c = let f = few _ c.requires.ok _ c.buckets-m.ensures in omega arith

pub loop-j-preserved : goal.loop-j-preserved
loop-j-preserved c =
    let f = few _ c.requires.ok _ c.buckets-m.ensures in
    let more = c.pick-more.ensures ∙ ap (λ (t : Bool). cond {A = ℕ} t 0 1) c.repeats.ensures in
    let stored = c.number.ensures ∙ c.raised.ensures ∙ ap (λ (n : ℕ). n + c.pick-more.result) c.of_number.ensures in
    raise_next c.loop-j.invariant _ _ _ (rest_hash _ _ _ _ refl) more stored (omega arith)

pub returns : goal.returns
returns c =
    let end : c.loop-j.j ≡ c.args.s.k = omega arith in
    λ key e b. c.loop-j.invariant.each b ∙ rw (end, has_hashes (paper c.args.s) _ key e _ c.buckets-m.ensures b)
