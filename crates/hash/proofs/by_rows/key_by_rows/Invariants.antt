-- What is found so far, joined with what the bytes from byte i on give, is H.
use Rattle.std.proofs.Common.{◌≡◌, drop}
use Rattle.std.specs.Int.Bits.{bit_xor}
use Rattle.theory.specs.Hash.{H_from, H}
use Rattle.hash.proofs.by_rows.key_by_rows.Given as goal

abbrev pub invariant-loop-i : goal.invariant-loop-i
invariant-loop-i l = bit_xor l.h (H_from l.i (drop l.i l.key)) ≡ H l.key
