use Rattle.std.proofs.Common.{◌≡◌, not, eqb, ◌||◌, drop}
use Rattle.theory.specs.Lists.{any}
use Rattle.memory.proofs.parts.all_zero.Given as goal

-- a byte seen that is not zero, or one to come
abbrev pub invariant-loop-x : goal.invariant-loop-x
invariant-loop-x l = any (λ y. not (eqb y 0)) l.fn.part ≡ (l.dirty || any (λ y. not (eqb y 0)) (drop l.x-index l.fn.part))
