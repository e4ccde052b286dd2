-- The counts of the list come first in work, then the choosers by these counts.
use mathlib.Core.Path.{◌≡◌, ap, ◌∙◌}
use lib.Seq.{take_at, drop_at}
use Rattle.std.proofs.Common.{List, ◌++◌, ℕ, length, arith}
use Rattle.theory.specs.Records.{Record}
use Rattle.theory.specs.Settings.{Card}
use Rattle.theory.specs.Placing.{true_count, choosers}
use Rattle.placing.specs.Worked.{nth, choices_by, ChoseParts, PlacedIn}
use Rattle.placing.proofs.place_parts.Goals as goal

placed_in : (s : Card) (l : List Record) (c d kept : List ℕ) → length c ≡ s.buckets → ((b : ℕ) → nth c b ≡ true_count s l b)
    → ChoseParts s c l d kept → PlacedIn s l (c ++ d) kept
placed_in s l c d kept long counted chose =
    let q : nth c ≡ true_count s l = λ i b. counted b i in
    record {
      counts = λ b. rw (take_at c d s.buckets long) (counted b);
      choosers = λ b. rw (drop_at c d s.buckets long) (chose.choosers b ∙ ap (λ (f : ℕ → ℕ). length (choosers s f l b)) q);
      choices = chose.kept ∙ ap (λ (f : ℕ → ℕ). choices_by s f l) q;
    }

pub returns : goal.returns
returns c = placed_in _ _ _ _ _ (omega arith) c.count_parts.ensures c.choose_parts.ensures
