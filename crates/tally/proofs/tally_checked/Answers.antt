-- `tally::tally_checked` meets its contract: 4, then 5, then the four numbers.
use Rattle.theory.specs.Calls.{ledger_invalid, lookup_invalid, tally_areas}
use Rattle.theory.proofs.ListLaws.{negated_false, negated_true}
use Rattle.settings.specs.Checked.{card}
use Rattle.tally.specs.Tallies.{read_areas}
use Rattle.tally.proofs.tally_checked.Goals as goal

pub returns-then-not-valid : goal.returns-then-not-valid
unfolding tally_areas
returns-then-not-valid c =
    rw (negated_false c.valid.result (ledger_invalid (card c.args.s) c.args.ledger.now) c.valid.ensures c.if-not-valid.true)

pub returns-then-not-lookup_valid : goal.returns-then-not-lookup_valid
unfolding tally_areas
returns-then-not-lookup_valid c =
    let areas = c.args.areas in
    let bad = lookup_invalid (card c.args.s) (read_areas c.args.ledger.now areas.clipped.now areas.buckets.now areas.side.now) in
    rw (
      negated_true c.valid.result (ledger_invalid (card c.args.s) c.args.ledger.now) c.valid.ensures c.if-not-valid.false,
      negated_false c.lookup_valid.result bad (c.lookup_valid.ensures c.args.ledger.now) c.if-not-lookup_valid.true,
    )

pub returns : goal.returns
unfolding tally_areas
returns c =
    let areas = c.args.areas in
    let bad = lookup_invalid (card c.args.s) (read_areas c.args.ledger.now areas.clipped.now areas.buckets.now areas.side.now) in
    rw (
      negated_true c.valid.result (ledger_invalid (card c.args.s) c.args.ledger.now) c.valid.ensures c.if-not-valid.false,
      negated_true c.lookup_valid.result bad (c.lookup_valid.ensures c.args.ledger.now) c.if-not-lookup_valid.false,
    ) c.count_all.ensures
