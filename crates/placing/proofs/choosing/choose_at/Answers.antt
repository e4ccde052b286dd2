-- `placing::choosing::choose_at` meets its contract: the least rank of a key's hashes has its least count and the bucket that it chooses.
use mathlib.Core.Path.{refl}
use native.Mathlib.Omega.{arith}
use Rattle.theory.proofs.RankLaws.{rest_hash}
use Rattle.placing.proofs.ReadyLaws.{few}
use Rattle.theory.proofs.SettingsLaws.{ranges}
use Rattle.theory.proofs.RankLaws.{best_again, best_end}
use Rattle.settings.specs.Checked.{paper}
use Rattle.placing.specs.Worked.{nth}
use Rattle.placing.proofs.ReadyLaws.{side_by_rank, bucket_by_rank}
use Rattle.placing.proofs.choosing.choose_at.Goals as goal

pub overflow_mul-best : goal.overflow_mul-best
overflow_mul-best c = let r = ranges (paper c.args.s) c.requires.ok in omega arith

pub overflow_add-best : goal.overflow_add-best
overflow_add-best c = let r = ranges (paper c.args.s) c.requires.ok in let f = few _ c.requires.ok _ c.buckets-m.ensures in omega arith

pub overflow_mul-b : goal.overflow_mul-b
overflow_mul-b c = let f = few _ c.requires.ok _ c.buckets-m.ensures in omega arith

pub overflow_shr-b : goal.overflow_shr-b
overflow_shr-b c = let f = few _ c.requires.ok _ c.buckets-m.ensures in omega arith

pub nonzero_rem-b : goal.nonzero_rem-b
nonzero_rem-b c = let f = few _ c.requires.ok _ c.buckets-m.ensures in omega arith

pub offset_bounds-counts-b : goal.offset_bounds-counts-b
offset_bounds-counts-b c = let f = few _ c.requires.ok _ c.buckets-m.ensures in omega arith

pub bounds-counts-b : goal.bounds-counts-b
bounds-counts-b c = let f = few _ c.requires.ok _ c.buckets-m.ensures in omega arith

pub rank-rank-requires : goal.rank-rank-requires
rank-rank-requires c = let f = few _ c.requires.ok _ c.buckets-m.ensures in omega arith

pub loop-j-preserved : goal.loop-j-preserved
loop-j-preserved c =
    let low = best_again _ _ _ _ (nth c.args.counts.now) c.loop-j.best c.loop-j.invariant _ (rest_hash _ _ _ _ refl) c.loop-j-test.true in
    rw (c.min-best.ensures, c.rank-rank.ensures, c.of_number.ensures) low

pub returns-then-best-top : goal.returns-then-best-top
returns-then-best-top c =
    let is_least = best_end _ _ _ _ (nth c.args.counts.now) c.loop-j.best c.loop-j.invariant c.loop-j-test.false in
    λ key e. side_by_rank (paper c.args.s) c.requires.ok (nth c.args.counts.now) _ _ _ c.buckets-m.ensures is_least key e c.if-best-top.true

pub returns : goal.returns
returns c =
    let is_least = best_end _ _ _ _ (nth c.args.counts.now) c.loop-j.best c.loop-j.invariant c.loop-j-test.false in
    λ key e. bucket_by_rank (paper c.args.s) c.requires.ok (nth c.args.counts.now) _ _ _ c.buckets-m.ensures is_least key e c.if-best-top.false
