-- A record has at most 41 bytes, and there are at most 4,096.
use Rattle.std.proofs.Common.{arith}
use Rattle.ledger.proofs.LedgerLaws.{places_most}
use Rattle.ledger.proofs.place_of.Goals as goal

pub overflow_mul-result : goal.overflow_mul-result
overflow_mul-result c = omega (arith, places_most _ _ _ c.requires.permitted c.requires.listed c.record_size.ensures)

pub overflow_add-result : goal.overflow_add-result
overflow_add-result c = omega (arith, places_most _ _ _ c.requires.permitted c.requires.listed c.record_size.ensures)
