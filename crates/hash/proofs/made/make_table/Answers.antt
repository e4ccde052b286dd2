-- By the width, the constant table by byte or by half-byte.
use Rattle.std.proofs.Common.{◌∙◌, sym, ⊎_elim, rules}
use Rattle.hash.proofs.MadeLaws.{length_by_byte, length_by_half, made_by_byte, made_by_half}
use Rattle.hash.proofs.made.make_table.Goals as goal

pub returns-then-width-eq-IPV4_WIDTH-clause-length : goal.returns-then-width-eq-IPV4_WIDTH-clause-length
returns-then-width-eq-IPV4_WIDTH-clause-length c = search rules ∙ sym (length_by_byte c.if-width-eq-IPV4_WIDTH.true)

pub returns-then-width-eq-IPV4_WIDTH-clause-made : goal.returns-then-width-eq-IPV4_WIDTH-clause-made
returns-then-width-eq-IPV4_WIDTH-clause-made c = made_by_byte _ c.if-width-eq-IPV4_WIDTH.true (search rules) c.table.ensures

pub returns-else-width-eq-IPV4_WIDTH-clause-length : goal.returns-else-width-eq-IPV4_WIDTH-clause-length
returns-else-width-eq-IPV4_WIDTH-clause-length c =
    search rules ∙ sym (length_by_half (⊎_elim (λ e. absurd (c.if-width-eq-IPV4_WIDTH.false e)) (λ e. e) c.requires))

pub returns-else-width-eq-IPV4_WIDTH-clause-made : goal.returns-else-width-eq-IPV4_WIDTH-clause-made
returns-else-width-eq-IPV4_WIDTH-clause-made c =
    made_by_half _ (⊎_elim (λ e. absurd (c.if-width-eq-IPV4_WIDTH.false e)) (λ e. e) c.requires) (search rules) c.half_table.ensures
