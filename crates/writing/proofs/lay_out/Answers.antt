-- `writing::lay_out` meets its contract: what placing left behind has the true counts, so each writer's area is that of the layout.
use mathlib.Core.Path.{sym, ◌∙◌}
use native.Mathlib.Omega.{arith}
use Rattle.theory.proofs.SettingsLaws.{ranges}
use Rattle.settings.specs.Checked.{paper, card}
use Rattle.settings.proofs.Laws.{top_is, true_length_is, clipped_length_is}
use Rattle.writing.proofs.CountLaws.{true_counts_are, clipped_are}
use Rattle.writing.proofs.LaidLedgerLaws.{areas_laid}
use Rattle.writing.proofs.lay_out.Goals as goal

pub copy_counts-requires : goal.copy_counts-requires
copy_counts-requires c = c.requires.lengths.true_counts ∙ true_length_is (paper c.args.s) ∙ sym c.requires.laying.placed.counts_length

pub write_clipped-requires-clause-top : goal.write_clipped-requires-clause-top
write_clipped-requires-clause-top c = (ranges (paper c.args.s) c.requires.laying.ok).top_high

pub write_clipped-requires-clause-pairs : goal.write_clipped-requires-clause-pairs
write_clipped-requires-clause-pairs c =
    omega (arith, c.requires.lengths.clipped_counts, clipped_length_is (paper c.args.s), c.requires.laying.placed.counts_length)

pub returns-clause-laid : goal.returns-clause-laid
returns-clause-laid c =
    let clipped_long = c.requires.lengths.clipped_counts ∙ clipped_length_is (paper c.args.s) in
    areas_laid (card c.args.s) _ c.write_places.ensures.ledger (c.copy_counts.ensures ∙ true_counts_are c.requires.laying.placed)
    (c.write_clipped.ensures ∙ clipped_are c.requires.laying.placed (sym (top_is (paper c.args.s))) clipped_long) c.write_places.ensures.buckets
    c.write_places.ensures.side
