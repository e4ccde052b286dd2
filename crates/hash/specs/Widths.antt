-- H over keys of several widths: what proofs/SplitLaws.antt proves of it.
use Rattle.std.specs.Prelude.{◌≡◌, List, ◌++◌, ℕ, ◌+◌, length, replicate}
use Rattle.std.specs.Int.Bits.{bit_xor}
use Rattle.theory.specs.Hash.{H_from, H}

-- H of a key splits at any byte
abbrev pub HSplits : Type 0
HSplits = (a : ℕ) (xs ys : List ℕ) → H_from a (xs ++ ys) ≡ bit_xor (H_from a xs) (H_from (a + length xs) ys)

-- a key of one width hashes as its bytes at the front of a longer key of zeros
abbrev pub HZeros : Type 0
HZeros = (key : List ℕ) (n : ℕ) → H (key ++ replicate n 0) ≡ H key
