-- Its cases are those of the definition.
use mathlib.Core.Path.{sym}
use Rattle.theory.proofs.FillLaws.{fill_below, fill_above, fill_half}
use Rattle.tally.proofs.fill.Goals as goal

pub returns-then-remainder-m : goal.returns-then-remainder-m
returns-then-remainder-m c = sym (fill_below c.args.n c.args.m c.if-remainder-m.true)

pub returns-then-m-remainder : goal.returns-then-m-remainder
returns-then-m-remainder c = sym (fill_above c.args.n c.args.m c.if-m-remainder.true)

pub returns : goal.returns
returns c = sym (fill_half c.args.n c.args.m c.if-remainder-m.false c.if-m-remainder.false)
