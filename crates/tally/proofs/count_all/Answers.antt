-- `tally::count_all` meets its contract, by what its callees count.
use Rattle.std.proofs.Common.{arith}
use Rattle.theory.specs.Ledger.{counted_totals}
use Rattle.settings.specs.Checked.{paper}
use Rattle.settings.proofs.Laws.{bounds}
use Rattle.tally.proofs.count_all.Goals as goal

pub count_at-requires : goal.count_at-requires
count_at-requires c = omega (arith, c.requires.checked.side_size, (bounds (paper c.args.s) c.requires.checked.ok).side_least)

pub count_at-requires-2 : goal.count_at-requires-2
count_at-requires-2 c = omega (arith, c.requires.ledger_size, (bounds (paper c.args.s) c.requires.checked.ok).ledger_least)

pub fill-requires : goal.fill-requires
fill-requires c =
    let b = bounds (paper c.args.s) c.requires.checked.ok in
    record {
      few = omega (arith, c.count_at-2.ensures.1);
      least = omega (arith, c.buckets.ensures);
      most = omega (arith, c.buckets.ensures);
    }

pub returns : goal.returns
unfolding counted_totals
returns c =
    rw (
      c.sum_marks-sums.ensures.in_buckets,
      c.sum_marks-sums.ensures.marked_255,
      c.count_at.ensures.0,
      c.fill.ensures,
      c.count_at-2.ensures.0,
      c.buckets.ensures,
    )
