-- `writing::clear_areas` meets its contract: each area is zeros of its length, and so is the layout of the empty list.
use Rattle.std.proofs.Common.{ap, ◌∙◌}
use Rattle.memory.proofs.SliceLaws.{zeros}
use Rattle.writing.proofs.EmptyLaws.{cleared}
use Rattle.writing.proofs.clear_areas.Goals as goal

pub returns-clause-cleared : goal.returns-clause-cleared
returns-clause-cleared c =
    λ s sized. cleared s _ _ _ _ _ (c.fill.ensures.after (λ y e. e) ∙ ap zeros sized.ledger) (c.fill-2.ensures.after (λ y e. e) ∙ ap zeros sized.true_counts)
    (c.fill-3.ensures.after (λ y e. e) ∙ ap zeros sized.clipped_counts) (c.fill-4.ensures.after (λ y e. e) ∙ ap zeros sized.buckets)
    (c.fill-5.ensures.after (λ y e. e) ∙ ap zeros sized.side_store)
