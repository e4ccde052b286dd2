-- The five areas that a call is lent, as a contract speaks of them: where it requires, at entry and at exit.
use Rattle.std.specs.Prelude.{List, ℕ}
use Rattle.std.specs.Borrow.{MutBor}
use denote.Triple.Both.{Both}
use Rattle.theory.specs.Layout.{Areas}
use Rattle.theory.specs.Lookup.{bare}
use Rattle.theory.specs.Ledger.{Step, answered}

-- a lent slice of numbers, and the same at entry and at exit
abbrev Slice : Type 0
Slice = MutBor (List ℕ)

abbrev Slices : Type 0
Slices = Both Slice Slice

abbrev pub areas_now : Slice → Slice → Slice → Slice → Slice → Areas
areas_now ledger true_counts clipped buckets side =
    record { ledger = ledger.now; true_counts = true_counts.now; clipped_counts = clipped.now; buckets = buckets.now; side_store = side.now }

abbrev pub entry_areas : Slices → Slices → Slices → Slices → Slices → Areas
entry_areas ledger true_counts clipped buckets side =
    areas_now ledger.entry true_counts.entry clipped.entry buckets.entry side.entry

abbrev pub exit_areas : Slices → Slices → Slices → Slices → Slices → Areas
exit_areas ledger true_counts clipped buckets side = areas_now ledger.exit true_counts.exit clipped.exit buckets.exit side.exit

-- a call that answers a number alone, and leaves the areas so
abbrev pub replied : ℕ → Areas → Step Areas
replied number areas = record { reply = answered (bare number); state = areas }
