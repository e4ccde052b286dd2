-- A turn takes one hash more, the law `any_again`.
use Rattle.std.proofs.Common.{refl, eqb}
use Rattle.theory.proofs.RankLaws.{any_again, any_end, rest_start, rest_next, rest_hash}
use Rattle.hash.proofs.repeats.Goals as goal

pub loop-init : goal.loop-init
loop-init c = record { rest_is = rest_start c.args.h; so_far = refl }

pub loop-preserved : goal.loop-preserved
loop-preserved c =
    let is_hash = rest_hash c.args.m _ _ _ c.loop.invariant.rest_is in
    record {
      rest_is = rest_next _ _ _ c.loop.invariant.rest_is;
      so_far = any_again _ _ _ _ (eqb c.args.b) c.loop.seen c.loop.invariant.so_far _ is_hash c.loop-test.true;
    }

pub returns : goal.returns
returns c = any_end _ _ _ _ (eqb c.args.b) c.loop.seen c.loop.invariant.so_far c.loop-test.false
