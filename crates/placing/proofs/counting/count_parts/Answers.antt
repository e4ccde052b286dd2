-- `placing::counting::count_parts` meets its contract: the true counts of three lists, added up, are those of the three in a row.
use mathlib.Core.Path.{◌∙◌}
use mathlib.Core.List.{List, ◌++◌}
use native.Mathlib.Omega.{arith}
use lib.ListN.{length}
use Rattle.std.proofs.Common.{ℕ}
use Rattle.theory.specs.Records.{Record, records}
use Rattle.settings.specs.Checked.{card}
use Rattle.placing.specs.Worked.{held}
use Rattle.placing.proofs.RecordCountLaws.{zero, count_bound, true_count_append}
use Rattle.placing.proofs.counting.count_parts.Goals as goal

pub count_more-requires : goal.count_more-requires
count_more-requires c =
    let p = c.requires in
    record { ready = p.ready; buckets = c.fill.ensures.len ∙ p.buckets; few = λ b. omega (arith, zero (length c.args.counts.now) c.fill.ensures.after b, p.few) }

pub count_more-requires-2 : goal.count_more-requires-2
count_more-requires-2 c =
    let p = c.requires in
    let w = (card c.args.s).width in
    let before = count_bound (card c.args.s) w (held w c.args.parts.before.now) c.args.parts.before.now in
    record {
      ready = p.ready;
      buckets = c.count_more.auto.counts ∙ c.fill.ensures.len ∙ p.buckets;
      few = λ b. omega (arith, zero (length c.args.counts.now) c.fill.ensures.after b, c.count_more.ensures b, before b, p.few);
    }

pub count_more-requires-3 : goal.count_more-requires-3
count_more-requires-3 c =
    let p = c.requires in
    let w = (card c.args.s).width in
    let before = count_bound (card c.args.s) w (held w c.args.parts.before.now) c.args.parts.before.now in
    let between = count_bound (card c.args.s) w (held w c.args.parts.between.now) c.args.parts.between.now in
    record {
      ready = p.ready;
      buckets = c.count_more-2.auto.counts ∙ c.count_more.auto.counts ∙ c.fill.ensures.len ∙ p.buckets;
      few = λ b. omega (arith, zero (length c.args.counts.now) c.fill.ensures.after b, c.count_more.ensures b, before b, c.count_more-2.ensures b, between b, p.few);
    }

pub returns : goal.returns
returns c =
    let s = card c.args.s in
    let part : List ℕ → List Record = λ a. records s.width (held s.width a) a in
    let p = c.args.parts in
    λ b. omega (
      arith,
      zero (length c.args.counts.now) c.fill.ensures.after b,
      c.count_more.ensures b,
      c.count_more-2.ensures b,
      c.count_more-3.ensures b,
      true_count_append s (part p.before.now) (part p.between.now ++ part p.after.now) b,
      true_count_append s (part p.between.now) (part p.after.now) b,
    )
