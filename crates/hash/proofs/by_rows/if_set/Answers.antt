-- The lowest bit is 0 or 1.
use Rattle.std.proofs.Common.{◌≡◌, ℕ, zero, suc, ◌*◌, ◌%◌, ◌<◌, arith}
use Rattle.theory.specs.Hash.{if_set}
use Rattle.hash.proofs.by_rows.if_set.Goals as goal

product : (b r : ℕ) → b < 2 → r * b ≡ if_set b r
unfolding if_set
product zero r h = omega arith
product (suc zero) r h = omega arith
product (suc (suc b)) r h = absurd (omega arith)

pub returns : goal.returns
returns c = rw c.from.ensures (product (c.args.bits % 2) c.args.row (omega arith))
