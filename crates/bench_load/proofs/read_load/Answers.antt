-- Each test is one of the paper's reasons for 15.
use Rattle.std.proofs.Common.{sym, ap, ◌∙◌}
use Rattle.theory.specs.Settings.{in_range}
use Rattle.theory.specs.BenchLoad.{eight_at, load_in}
use Rattle.theory.proofs.BenchLoadLaws.{zero_s, flows_outside, other_length}
use Rattle.bench_load.proofs.LoadLaws.{asked_is}
use Rattle.bench_load.proofs.read_load.Goals as goal

pub returns-then-input-ne32-clause-load : goal.returns-then-input-ne32-clause-load
returns-then-input-ne32-clause-load c = sym (other_length c.args.input.now c.if-input-ne32.true)

pub returns-then-s-eq0-clause-load : goal.returns-then-s-eq0-clause-load
unfolding load_in eight_at
returns-then-s-eq0-clause-load c = sym (zero_s c.args.input.now (sym c.eight_at-s.ensures ∙ c.if-s-eq0.true))

pub returns-then-not-flows_allowed-clause-load : goal.returns-then-not-flows_allowed-clause-load
unfolding load_in eight_at
returns-then-not-flows_allowed-clause-load c =
    let outside = sym c.flows_allowed.ensures ∙ c.if-not-flows_allowed.true in
    sym (flows_outside c.args.input.now (ap (in_range 1 4096) (sym c.eight_at-flows.ensures) ∙ outside))

pub returns-clause-load : goal.returns-clause-load
unfolding load_in eight_at
returns-clause-load c =
    asked_is c.args.input.now _ _ _ _ c.eight_at-s.ensures c.eight_at-w.ensures c.eight_at-flows.ensures c.eight_at-count.ensures c.if-input-ne32.false
    c.if-s-eq0.false (sym c.flows_allowed.ensures ∙ c.if-not-flows_allowed.false)
