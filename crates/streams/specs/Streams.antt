-- What the contracts of reads say of their answers.
use Rattle.std.specs.Prelude.{ℕ, ◌≤◌, ◌<◌, Option, Result, IfOk, IfSome}
use Rattle.streams.specs.declared.Failed.{Failed}

-- a read of at most so many bytes: one or more of them, None at the end, or an error
abbrev pub Within : Result (Option ℕ) Failed → ℕ → Type 0
Within r most = IfOk r (λ got. IfSome got (λ n. (0 < n) × (n ≤ most)))
