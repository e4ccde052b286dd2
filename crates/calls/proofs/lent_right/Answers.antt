-- `calls::lent_right` meets its contract: each kind's lengths are judged as the definition says.
use Rattle.std.proofs.Common.{◌&&◌, ◌∙◌, ap, inl, inr, eqb, length}
use Rattle.theory.specs.Settings.{ledger_length}
use Rattle.theory.specs.Calls.{lent_lengths}
use Rattle.settings.specs.Checked.{card}
use Rattle.calls.proofs.CallingLaws.{lookup_right}
use Rattle.calls.proofs.lent_right.Goals as goal

pub returns-in-Clear : goal.returns-in-Clear
unfolding lent_lengths
returns-in-Clear c = rw (c.in-Clear.is, c.have_lengths.ensures)

pub returns-in-Add : goal.returns-in-Add
unfolding lent_lengths
returns-in-Add c =
    elim c.in-Add.is [
      | inl (k, x, e) ↦ rw (e, c.work_length.ensures, c.have_lengths-in-Add.ensures)
      | inr (inl (k, x, e)) ↦ rw (e, c.work_length.ensures, c.have_lengths-in-Add.ensures)
      | inr (inr (k, e)) ↦ rw (e, c.work_length.ensures, c.have_lengths-in-Add.ensures)
    ]

pub returns-in-Search : goal.returns-in-Search
unfolding lent_lengths
returns-in-Search c = rw c.in-Search.is (c.have_lengths-in-Search.ensures ∙ lookup_right _ _ _ c.lookup.ensures)

pub returns-in-Tally : goal.returns-in-Tally
unfolding lent_lengths
returns-in-Tally c =
    rw (c.in-Tally.is, c.ledger_length.ensures)
    (ap (λ right. eqb (length c.args.areas.now.ledger.now) (ledger_length (card c.args.s)) && right)
    (c.have_lengths-in-Tally.ensures ∙ lookup_right _ _ _ c.lookup-in-Tally.ensures))
