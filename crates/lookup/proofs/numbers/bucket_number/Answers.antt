use Rattle.std.proofs.Common.{ap, ◌∙◌}
use Rattle.theory.specs.Lookup.{driver_number}
use Rattle.lookup.proofs.numbers.bucket_number.Goals as goal

pub returns-then-s-eq-IPV4_WIDTH : goal.returns-then-s-eq-IPV4_WIDTH
returns-then-s-eq-IPV4_WIDTH c = c.driver_number.ensures ∙ ap driver_number c.compare_ipv4_bucket.ensures

pub returns-else-s-eq-IPV4_WIDTH : goal.returns-else-s-eq-IPV4_WIDTH
returns-else-s-eq-IPV4_WIDTH c = c.driver_number-else-s-eq-IPV4_WIDTH.ensures ∙ ap driver_number c.compare_wide_bucket.ensures
