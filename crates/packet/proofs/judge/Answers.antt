-- By the two tests.
use Rattle.std.proofs.Common.{sym, ◌∙◌, ap}
use Rattle.memory.specs.Refusals.{number_of}
use Rattle.packet.specs.Judging.{refusal_of}
use Rattle.packet.proofs.judge.Goals as goal

pub returns-then-header_wrong : goal.returns-then-header_wrong
unfolding refusal_of
returns-then-header_wrong g c = rw (sym c.header_wrong.ensures ∙ c.if-header_wrong.true) (ap number_of c.WRONG_HEADER.ensures)

pub returns-then-ports_cut : goal.returns-then-ports_cut
unfolding refusal_of
returns-then-ports_cut g c = rw (sym c.header_wrong.ensures ∙ c.if-header_wrong.false, sym c.ports_cut.ensures ∙ c.if-ports_cut.true)

pub returns : goal.returns
unfolding refusal_of
returns g c = rw (sym c.header_wrong.ensures ∙ c.if-header_wrong.false, sym c.ports_cut.ensures ∙ c.if-ports_cut.false)
