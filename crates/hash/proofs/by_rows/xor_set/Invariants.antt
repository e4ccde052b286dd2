-- What is found so far, joined with what the rows from the next one on give for the bits that are left, is what all rows give.
use Rattle.std.proofs.Common.{◌≡◌, drop}
use Rattle.std.specs.Int.Bits.{bit_xor}
use Rattle.hash.specs.Table.{xor_set}
use Rattle.hash.proofs.by_rows.xor_set.Given as goal

abbrev pub invariant-loop-row : goal.invariant-loop-row
invariant-loop-row l = bit_xor l.h (xor_set (drop l.row-index l.rows) l.bits) ≡ xor_set l.rows l.v
