-- What is found so far, joined with what the table gives for the bytes from byte i on, is what it gives for the key.
use Rattle.std.proofs.Common.{◌≡◌, drop}
use Rattle.std.specs.Int.Bits.{bit_xor}
use Rattle.hash.specs.Table.{H_by_from}
use Rattle.hash.proofs.by_table.by_bytes.Given as goal

abbrev pub invariant-loop-i : goal.invariant-loop-i
invariant-loop-i l = bit_xor l.h (H_by_from 8 l.table l.i (drop l.i l.key)) ≡ H_by_from 8 l.table 0 l.key
