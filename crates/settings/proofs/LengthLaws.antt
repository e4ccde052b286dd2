-- Areas that are judged to have their lengths are sized.
use mathlib.Core.Path.{◌≡◌}
use mathlib.Core.Bool.{true}
use lib.Dec.{eqb}
use borrow.Author.Tests.{eqb-true}
use lib.ListN.{length}
use Rattle.theory.specs.Lists.{all}
use Rattle.theory.specs.Settings.{Card, ledger_length, true_length, clipped_length, buckets_length, side_length}
use Rattle.theory.specs.Layout.{Areas}
use Rattle.theory.specs.Calls.{lookup_lengths, all_lengths}
use Rattle.theory.proofs.ListLaws.{and_left, and_right}
use Rattle.theory.proofs.CallLaws.{Sized}

pub sized_by : (c : Card) (a : Areas) → all (λ x. x) (all_lengths c a) ≡ true → Sized c a
unfolding all_lengths lookup_lengths
sized_by c a e =
    let e₁ = and_right (eqb (length a.ledger) (ledger_length c)) _ e in
    let e₂ = and_right (eqb (length a.true_counts) (true_length c)) _ e₁ in
    let e₃ = and_right (eqb (length a.clipped_counts) (clipped_length c)) _ e₂ in
    let e₄ = and_right (eqb (length a.buckets) (buckets_length c)) _ e₃ in
    record {
      ledger = eqb-true _ _ (and_left (eqb (length a.ledger) (ledger_length c)) _ e);
      true_counts = eqb-true _ _ (and_left (eqb (length a.true_counts) (true_length c)) _ e₁);
      clipped_counts = eqb-true _ _ (and_left (eqb (length a.clipped_counts) (clipped_length c)) _ e₂);
      buckets = eqb-true _ _ (and_left (eqb (length a.buckets) (buckets_length c)) _ e₃);
      side_store = eqb-true _ _ (and_left (eqb (length a.side_store) (side_length c)) _ e₄);
    }
