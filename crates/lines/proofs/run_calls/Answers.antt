-- `lines::run_calls` meets its contract: after some calls, what `Ran` says.
use Rattle.std.proofs.Common.{◌≡◌, ◌+◌, length, ◌∙◌, arith, rules, length-append}
use Rattle.std.specs.Slice.Iter.{chunks_rest}
use Rattle.std.specs.Iterator.Adapters.{enumerate_source}
use Rattle.theory.specs.Flowrun.{call_count}
use Rattle.lines.proofs.BlockLaws.{ran_on, ran_end}
use Rattle.lines.proofs.run_calls.Goals as goal

pub run_call-requires : goal.run_call-requires
unfolding call_count
run_call-requires c =
    let step = rw c.in-Some.is at c.next.ensures.steps in omega (arith, step.0.1.2, c.loop-i.invariant.room)

pub loop-i-preserved : goal.loop-i-preserved
unfolding call_count
loop-i-preserved c =
    let so_far = c.loop-i.invariant in
    let step = rw c.in-Some.is at c.next.ensures.steps in
    let long = rw so_far.size at step.0.1.1 in
    let ran = c.run_call.ensures in
    let left = chunks_rest (enumerate_source c.loop-i.i-iterator) in
    let rest = chunks_rest (enumerate_source c.next.new.self) in
    record {
      size = step.0.0 ∙ so_far.size;
      ran = ran_on _ _ _ _ _ _ _ _ _ _ _ _ _ _ _ so_far.work (omega (arith, step.2)) step.0.1.0 long step.0.1.2 so_far.ran (rw step.1 at ran.prints);
      room =
          let split : length left ≡ length c.in-Some.call.now + length rest = rw (step.0.1.0, length-append) in
          omega (arith, split, long, ran.few, so_far.room);
      few =
          let split : length left ≡ length c.in-Some.call.now + length rest = rw (step.0.1.0, length-append) in
          omega (arith, split, long, step.2);
      work = search rules;
      slices = search rules;
      text = search rules;
      long = search rules;
    }

pub returns-clause-prints : goal.returns-clause-prints
returns-clause-prints c =
    let step = rw c.in-None.is at c.next.ensures.steps in
    let ends = ran_end _ _ _ _ _ _ _ _ _ step.0.1.0 c.loop-i.invariant.ran in
    let h = ends.0 in search rules
