-- What tally gives, as the code holds it.
use Rattle.std.specs.Prelude.{Result, Ok, Err, List, [], ℕ, ◌≤◌}
use Rattle.std.specs.Borrow.{Bor}
use denote.Triple.Both.{Both}
use Rattle.theory.specs.Layout.{Areas}
use Rattle.theory.specs.Ledger as plain
use Rattle.memory.specs.declared.refusals.Refusal.{Refusal}
use Rattle.memory.specs.Refusals.{number_of}
use Rattle.settings.specs.declared.areas.LookupAreas.{LookupAreas}
use Rattle.tally.specs.declared.Totals.{Totals}

-- the paper's number and its four values: 0 and what was counted, or the refusal's number alone
abbrev pub totals_of : Result Totals Refusal → plain.Totals
totals_of (Ok r) = record { number = 0; in_buckets = r.in_buckets; in_side = r.in_side; marked_255 = r.marked_255; fill = r.fill }
totals_of (Err e) = plain.no_totals (number_of e)

-- the ledger and the three lookup areas as the areas of a call that is lent no true counts
abbrev pub read_areas : List ℕ → List ℕ → List ℕ → List ℕ → Areas
read_areas ledger clipped buckets side = record { ledger = ledger; true_counts = []; clipped_counts = clipped; buckets = buckets; side_store = side }

-- the same as a contract speaks of them, at entry
abbrev Slices : Type 0
Slices = Both (Bor (List ℕ)) (Bor (List ℕ))

abbrev pub entry_read : Slices → Both LookupAreas LookupAreas → Areas
entry_read ledger areas = read_areas ledger.entry.now areas.entry.clipped.now areas.entry.buckets.now areas.entry.side.now

-- a ledger count and a number of buckets, of which the fill is made
pub record Fillable (n m : ℕ) : Type 0 where
  pub few : n ≤ 65535
  pub least : 16 ≤ m
  pub most : m ≤ 4096
