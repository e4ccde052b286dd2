-- Each arm is one of the definition's.
use Rattle.std.proofs.Common.{arith}
use Rattle.theory.specs.BenchLoad.{load_call}
use Rattle.bench_load.proofs.LoadLaws.{search_letter}
use Rattle.bench_load.proofs.letter.Goals as goal

pub returns-in-0 : goal.returns-in-0
unfolding load_call
returns-in-0 c = λ flows second. rw c.in-0.is

pub returns-in-1 : goal.returns-in-1
unfolding load_call
returns-in-1 c = λ flows second. rw c.in-1.is

pub returns-in-2 : goal.returns-in-2
unfolding load_call
returns-in-2 c = λ flows second. rw c.in-2.is

pub returns-in_default : goal.returns-in_default
returns-in_default c = λ flows second. search_letter flows c.args.first second (λ e. omega arith) (λ e. omega arith) (λ e. omega arith)
