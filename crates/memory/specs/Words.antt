-- The number that bytes are, low byte first, as the processor loads a word. Only a comparison uses it.
use Rattle.std.specs.Prelude.{List, [], ◌∷◌, ℕ, ◌+◌, ◌*◌}

unfoldable pub low_first : List ℕ → ℕ
low_first [] = 0
low_first (x ∷ xs) = x + low_first xs * 256
