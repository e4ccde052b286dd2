-- Lines in a buffer, and the areas that the calls leave.
use Rattle.std.specs.Prelude.{◌≡◌, List, ℕ}
use Rattle.theory.specs.Layout.{Areas}
use Rattle.theory.specs.Flowrun.{Printed}
use Rattle.text.specs.declared.Text.{Text}
use Rattle.text.specs.Writing.{Writes, Grows}

-- the areas are those after the calls, and their lines stand after the text before them
abbrev pub PrintsAfter : Printed → Areas → Text → Text → Type 0
PrintsAfter x areas before after = (areas ≡ x.areas) × Grows x.text before after

-- the areas are those after the calls, and their lines stand at the start of the buffer, n bytes of it
abbrev pub Prints : Printed → Areas → List ℕ → List ℕ → ℕ → Type 0
Prints x areas before after n = (areas ≡ x.areas) × Writes x.text before after n
