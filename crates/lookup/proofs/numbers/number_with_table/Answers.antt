-- Judged first, then the search by the H that the lent table gives.
use Rattle.std.proofs.Common.{sym, ap, ◌∙◌}
use Rattle.theory.specs.Lookup.{driver_number}
use Rattle.settings.specs.Checked.{given_of}
use Rattle.lookup.proofs.JudgeLaws.{lent_unrefused, lent_long}
use Rattle.lookup.proofs.WithTableLaws.{with_refused, with_ready}
use Rattle.lookup.proofs.numbers.number_with_table.Goals as goal

pub h_with_table-requires : goal.h_with_table-requires
h_with_table-requires c = lent_long _ (given_of c.args.given) _ _ _ _ c.in-Ok.s (sym c.in-Ok.ensures)

pub number_at-requires-clause-checked : goal.number_at-requires-clause-checked
number_at-requires-clause-checked c = (lent_unrefused _ (given_of c.args.given) _ _ _ _ c.in-Ok.s (sym c.in-Ok.ensures)).1.checked

pub number_at-requires-clause-wide : goal.number_at-requires-clause-wide
number_at-requires-clause-wide c = (lent_unrefused _ (given_of c.args.given) _ _ _ _ c.in-Ok.s (sym c.in-Ok.ensures)).1.wide

pub returns-in-Err : goal.returns-in-Err
returns-in-Err c =
    c.driver_number.ensures ∙ ap driver_number (c.refused.ensures ∙ with_refused _ (given_of c.args.given) _ _ _ _ c.in-Err.refusal (sym c.in-Err.ensures))

pub returns-in-Ok : goal.returns-in-Ok
returns-in-Ok c =
    let s = c.in-Ok.s in
    let ready = sym c.in-Ok.ensures in
    let right = (lent_unrefused _ (given_of c.args.given) _ _ _ _ s ready).1 in
    c.number_at.ensures ∙ ap driver_number (with_ready _ (given_of c.args.given) _ _ _ _ s ready _ right.same _ c.h_with_table.ensures.entries)
