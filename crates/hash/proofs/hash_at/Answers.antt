-- 1 shifted left by p is 2^p, since p is small.
use Rattle.std.proofs.Common.{◌≡◌, ℕ, ◌*◌, ◌/◌, ◌%◌, ◌^◌, ◌≤◌, ap, ◌∙◌, arith}
use native.Mathlib.Nat.{one-mul}
use lib.Dec.{lit<}
use lib.Pow.{shl_exact}
use Rattle.theory.specs.Hash.{hash}
use Rattle.hash.proofs.hash_at.Goals as goal

one_shl : (p : ℕ) → p ≤ 12 → (1 * 2 ^ p) % 2 ^ 64 ≡ 2 ^ p
one_shl p h = shl_exact {a = 1} 1 p 64 (lit< tt) (omega arith) ∙ one-mul (2 ^ p)

pub returns : goal.returns
unfolding hash
returns c = ap (λ (n : ℕ). (c.args.h / 2 ^ (16 * c.args.j)) % n) (one_shl c.args.p c.requires.power)
