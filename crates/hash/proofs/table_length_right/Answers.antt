-- By byte at 13, by byte or by half-byte at 37.
use Rattle.std.proofs.Common.{◌≡◌, ◌*◌, eq-eqb, sym, ◌∙◌, ⊎_elim, arith}
use Rattle.theory.specs.Settings.{ipv6_width}
use Rattle.hash.specs.Digits.{table_length}
use Rattle.hash.proofs.LentTableLaws.{length_allowed, length_allowed_13}
use Rattle.hash.proofs.table_length_right.Goals as goal

pub returns-then-width-eq-IPV4_WIDTH : goal.returns-then-width-eq-IPV4_WIDTH
returns-then-width-eq-IPV4_WIDTH c = length_allowed_13 c.args.length c.args.width c.if-width-eq-IPV4_WIDTH.true

pub returns : goal.returns
returns c =
    let n = c.args.length in
    let w = c.args.width in
    let wide : w ≡ ipv6_width = ⊎_elim (λ e. absurd (c.if-width-eq-IPV4_WIDTH.false e)) (λ e. e) c.requires in
    let half : w * 32 ≡ table_length 4 (2 * w) = omega arith in
    sym (length_allowed n w ∙ rw (eq-eqb w ipv6_width wide, ← half))
