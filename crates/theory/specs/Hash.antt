-- Document 01, 'Hash': xorshift64 (Marsaglia, 2003), its rows without end, H of a key of any length, hash j, and a key's bucket numbers.
use Rattle.std.specs.Prelude.{List, [], ◌∷◌, map, ℕ, zero, suc, ◌-◌, ◌*◌, ◌/◌, ◌%◌, ◌^◌}
use Rattle.std.specs.Int.Bits.{bit_xor}
use Rattle.theory.specs.Lists.{upto, fresh}

-- s xor s shifted left by k (modulo 2^64); s xor s shifted right by k
abbrev pub xor_left : ℕ → ℕ → ℕ
xor_left k s = bit_xor s ((s * 2 ^ k) % 2 ^ 64)

abbrev pub xor_right : ℕ → ℕ → ℕ
xor_right k s = bit_xor s (s / 2 ^ k)

-- a step of xorshift64: left 13, right 7, left 17
unfoldable pub xorshift64 : ℕ → ℕ
xorshift64 s = xor_left 17 (xor_right 7 (xor_left 13 s))

-- where s starts
abbrev pub start : ℕ
start = 88172645463325252

-- row i, from 0, is s after i + 1 steps
unfoldable pub row : ℕ → ℕ
row zero = xorshift64 start
row (suc i) = xorshift64 (row i)

-- a row if its bit is set, else 0
unfoldable pub if_set : ℕ → ℕ → ℕ
if_set zero r = 0
if_set (suc b) r = r

-- the xor of the rows of the set bits among the n low bits of v, where row i belongs to bit 0 of v
unfoldable pub rows_of : ℕ → ℕ → ℕ → ℕ
rows_of zero i v = 0
rows_of (suc n) i v = bit_xor (if_set (v % 2) (row i)) (rows_of n (suc i) (v / 2))

-- the xor of the rows of the set bits of key bytes, the first of which is byte a: row 8a + b belongs to bit b of byte a
unfoldable pub H_from : ℕ → List ℕ → ℕ
H_from a [] = 0
H_from a (v ∷ vs) = bit_xor (rows_of 8 (8 * a) v) (H_from (suc a) vs)

-- H of a key
unfoldable pub H : List ℕ → ℕ
H key = H_from 0 key

-- hash j of a key whose H is h, for m buckets: (h / 2^(16j), rounded down) mod m
unfoldable pub hash : ℕ → ℕ → ℕ → ℕ
hash m h j = h / 2 ^ (16 * j) % m

-- its hashes from j up to k
abbrev pub hashes : ℕ → ℕ → ℕ → ℕ → List ℕ
hashes m h j k = map (λ i. hash m h i) (upto j (k - j))

-- the bucket numbers of a key whose H is h: its first k hashes, repeats dropped
unfoldable pub numbers_of : ℕ → ℕ → ℕ → List ℕ
numbers_of m k h = fresh [] (map (λ j. hash m h j) (upto 0 k))
