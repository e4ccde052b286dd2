use Rattle.std.proofs.Common.{sym, ◌∙◌}
use Rattle.lookup.proofs.CounterLaws.{choice_is}
use Rattle.lookup.proofs.counters.key_counters.Goals as goal

pub returns-then-above : goal.returns-then-above
returns-then-above c = sym (choice_is c.read_counters-best.ensures ∙ rw (sym c.above.ensures ∙ c.if-above.true))

pub returns : goal.returns
returns c = rw c.of_rank.ensures (sym (choice_is c.read_counters-best.ensures ∙ rw (sym c.above.ensures ∙ c.if-above.false)))
