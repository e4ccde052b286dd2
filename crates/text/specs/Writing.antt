-- Text at the start of a buffer.
use Rattle.std.specs.Prelude.{◌≡◌, List, ◌++◌, ℕ, ◌+◌, length, drop}
use Rattle.text.specs.declared.Text.{Text}

-- the text stands at the start, the rest is as it was; n is how many bytes it has
abbrev pub Writes : List ℕ → List ℕ → List ℕ → ℕ → Type 0
Writes text before after n = (n ≡ length text) × (after ≡ text ++ drop (length text) before)

-- with any text before it that ends at a place, the text stands after that one, and now ends at n
abbrev pub Appends : List ℕ → List ℕ → ℕ → List ℕ → ℕ → Type 0
Appends text before at after n = (empty earlier : List ℕ) → Writes earlier empty before at → Writes (earlier ++ text) empty after n

-- u is t with more text, in the same lent bytes
pub record Grows (more : List ℕ) (t u : Text) : Type 0 where
  pub appended : Appends more t.bytes.now t.end u.bytes.now u.end
  pub ends : u.end ≡ t.end + length more
  pub long : length u.bytes.now ≡ length t.bytes.now
  pub same : u.bytes.ghost_name ≡ t.bytes.ghost_name
