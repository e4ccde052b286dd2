-- `tally::tally` meets its contract: 1, 2, then tally on areas of their lengths.
use Rattle.std.proofs.lemmas.Result.{err_from_is_err_and}
use Rattle.settings.specs.Checked.{given_of}
use Rattle.tally.proofs.TallyLaws.{tally_1, judged_by, tally_2, tally_on, tally_checked}
use Rattle.tally.proofs.tally.Goals as goal

pub returns-in_err-s : goal.returns-in_err-s
returns-in_err-s c =
    let p = err_from_is_err_and c.from_residual.result c.from_residual.ensures.1 in
    rw (p.1, p.2) (tally_1 (given_of c.args.given) _ _ _ _ _ c.in_err-s.ensures)

pub returns-then-not-ledger-ledger_length : goal.returns-then-not-ledger-ledger_length
returns-then-not-ledger-ledger_length c =
    let judged = judged_by (given_of c.args.given) _ _ _ _ c.in_ok-s.s c.in_ok-s.ensures _ c.ledger_length.ensures _ c.have_lengths.ensures in
    tally_2 _ _ _ _ _ judged c.if-not-ledger-ledger_length.true

pub tally_checked-requires-clause-checked : goal.tally_checked-requires-clause-checked
tally_checked-requires-clause-checked c =
    let judged = judged_by (given_of c.args.given) _ _ _ _ c.in_ok-s.s c.in_ok-s.ensures _ c.ledger_length.ensures _ c.have_lengths.ensures in
    (tally_checked _ _ _ _ _ judged c.if-not-ledger-ledger_length.false).0

pub returns : goal.returns
returns c =
    let judged = judged_by (given_of c.args.given) _ _ _ _ c.in_ok-s.s c.in_ok-s.ensures _ c.ledger_length.ensures _ c.have_lengths.ensures in
    tally_on _ _ _ _ _ judged c.if-not-ledger-ledger_length.false _ c.tally_checked.ensures
