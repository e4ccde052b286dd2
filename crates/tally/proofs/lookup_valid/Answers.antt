-- `tally::lookup_valid` meets its contract: the three tests in their order.
use Rattle.std.proofs.Common.{sym, ◌∙◌, arith}
use Rattle.settings.specs.Checked.{paper}
use Rattle.settings.proofs.Laws.{bounds}
use Rattle.tally.proofs.TallyLaws.{valid_is}
use Rattle.tally.proofs.lookup_valid.Goals as goal
use Rattle.tally.proofs.lookup_valid.Goals.{then-counters_valid, else-counters_valid}

pub count_at-requires : goal.count_at-requires
count_at-requires c = omega (arith, c.requires.side_size, (bounds (paper c.args.s) c.requires.ok).side_least)

pub returns-then-marks_valid : goal.returns-then-marks_valid
returns-then-marks_valid c =
    λ ledger. elim c.if-counters_valid.branch [
      | then-counters_valid w ↦ rw (
        valid_is (paper c.args.s) ledger,
        ← c.counters_valid.ensures,
        w.if-counters_valid.true,
        ← w.marks_valid.ensures,
        sym w.value-is ∙ c.if-marks_valid.true,
        ← c.count_at.ensures.0,
      )
      | else-counters_valid w ↦ grind (arith, w.value-is, c.if-marks_valid.true)
    ]

pub returns-else-marks_valid : goal.returns-else-marks_valid
returns-else-marks_valid c =
    λ ledger. elim c.if-counters_valid.branch [
      | then-counters_valid w ↦ rw (
        valid_is (paper c.args.s) ledger,
        ← c.counters_valid.ensures,
        w.if-counters_valid.true,
        ← w.marks_valid.ensures,
        sym w.value-is ∙ c.if-marks_valid.false,
      ) c.if-marks_valid.false
      | else-counters_valid w ↦ rw (valid_is (paper c.args.s) ledger, ← c.counters_valid.ensures, w.if-counters_valid.false) c.if-marks_valid.false
    ]
