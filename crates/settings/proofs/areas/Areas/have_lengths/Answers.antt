use Rattle.std.proofs.Common.{◌∙◌}
use mathlib.Core.Path.{ap}
use Rattle.theory.specs.Lists.{all}
use Rattle.theory.specs.Layout.{Areas}
use Rattle.theory.specs.Calls.{all_lengths, lookup_lengths}
use Rattle.settings.specs.Checked.{card}
use Rattle.settings.proofs.areas.Areas.have_lengths.Goals as goal

pub returns : goal.returns
unfolding all_lengths lookup_lengths
returns c =
    rw (
      c.ledger_length.ensures,
      c.true_length.ensures,
      c.have_lengths.ensures ∙ ap (λ (a : Areas). all (λ x. x) (lookup_lengths (card c.args.s) a)) c.lookup.ensures,
    )
