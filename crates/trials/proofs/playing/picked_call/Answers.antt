-- `trials::playing::picked_call` meets its contract: each arm is one of the definition's.
use Rattle.std.proofs.Common.{◌%◌, ◌≢◌, ne_eqb, arith}
use Rattle.theory.specs.BenchLoad.{load_call}
use Rattle.trials.proofs.playing.picked_call.Goals as goal

pub returns-in-0 : goal.returns-in-0
unfolding load_call
returns-in-0 c = λ flows second key. rw (c.in-0.is, key, c.class_of-class.ensures second)

pub returns-in-1 : goal.returns-in-1
unfolding load_call
returns-in-1 c = λ flows second key. rw (c.in-1.is, key, c.class_of-class.ensures second)

pub returns-in-2 : goal.returns-in-2
unfolding load_call
returns-in-2 c = λ flows second key. rw (c.in-2.is, key)

pub returns-in_default : goal.returns-in_default
unfolding load_call
returns-in_default c =
    let other = c.args.first % 4 in
    let not_0 : other ≢ 0 = omega arith in
    let not_1 : other ≢ 1 = omega arith in
    let not_2 : other ≢ 2 = omega arith in
    λ flows second key. rw (ne_eqb _ 0 not_0, ne_eqb _ 1 not_1, ne_eqb _ 2 not_2, key)
