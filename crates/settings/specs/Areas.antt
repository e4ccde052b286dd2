-- What the lent areas hold, as theory has it; and that a call was handed back the slices that it was lent.
use Rattle.std.specs.Prelude.{◌≡◌, [], length}
use Rattle.theory.specs.Layout as plain
use Rattle.settings.specs.declared.areas.Areas.{Areas}
use Rattle.settings.specs.declared.areas.LookupAreas.{LookupAreas}

abbrev pub contents : Areas → plain.Areas
contents a =
    record {
      ledger = a.ledger.now;
      true_counts = a.true_counts.now;
      clipped_counts = a.clipped.now;
      buckets = a.buckets.now;
      side_store = a.side.now;
    }

-- the three lookup areas as the areas of a call that is lent no others
abbrev pub lookup_contents : LookupAreas → plain.Areas
lookup_contents a = record { ledger = []; true_counts = []; clipped_counts = a.clipped.now; buckets = a.buckets.now; side_store = a.side.now }

-- the same of areas of which a call is lent all five
abbrev pub lookup_part : plain.Areas → plain.Areas
lookup_part a = record a { ledger = []; true_counts = [] }

-- b's are the slices that a's are, each as long as it was, whatever they hold
pub record SameSlices (a b : Areas) : Type 0 where
  pub ledger : b.ledger.ghost_name ≡ a.ledger.ghost_name
  pub true_counts : b.true_counts.ghost_name ≡ a.true_counts.ghost_name
  pub clipped : b.clipped.ghost_name ≡ a.clipped.ghost_name
  pub buckets : b.buckets.ghost_name ≡ a.buckets.ghost_name
  pub side : b.side.ghost_name ≡ a.side.ghost_name
  pub ledger_long : length b.ledger.now ≡ length a.ledger.now
  pub true_long : length b.true_counts.now ≡ length a.true_counts.now
  pub clipped_long : length b.clipped.now ≡ length a.clipped.now
  pub buckets_long : length b.buckets.now ≡ length a.buckets.now
  pub side_long : length b.side.now ≡ length a.side.now
