use Rattle.std.proofs.Common.{sym, ◌∙◌}
use Rattle.theory.proofs.SnapshotLaws.{first_of_ipv4, first_of_other}
use Rattle.settings.specs.Checked.{paper}
use Rattle.settings.proofs.Laws.{width_is}
use Rattle.snapshot.proofs.first_count.Goals as goal

pub returns-then-width-eq-IPV4_WIDTH : goal.returns-then-width-eq-IPV4_WIDTH
returns-then-width-eq-IPV4_WIDTH c =
    let t = paper c.args.s in sym (first_of_ipv4 t (sym (c.width.ensures ∙ width_is t) ∙ c.if-width-eq-IPV4_WIDTH.true))

pub returns : goal.returns
returns c =
    let t = paper c.args.s in sym (first_of_other t (λ narrow. c.if-width-eq-IPV4_WIDTH.false (c.width.ensures ∙ width_is t ∙ narrow)))
