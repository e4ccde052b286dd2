-- What the door of load answers on every input.
use Rattle.std.specs.Prelude.{cond, List, ℕ, eqb, length}
use Rattle.theory.specs.Layout.{Areas}
use Rattle.theory.specs.Snapshot.{settings_count, settings_list, load, head_refusal}

-- the number answered, and the area for the settings and the five areas at exit
pub record LoadedInto : Type 0 where
  pub number : ℕ
  pub settings : List ℕ
  pub areas : Areas

-- "hands them back": what loading gives, the settings in an area of 7 numbers. With an area of another length nothing is altered, and the number is the
-- one that asking for the settings gives: "1, 2 .. judged once an allowed first count, its settings and the second count are there", so 12, 1 or 2
unfoldable pub load_of : List ℕ → ℕ → Areas → List ℕ → LoadedInto
load_of file w a settings =
    let x = load file w a in
    cond (eqb (length settings) settings_count) (record { number = x.number; settings = settings_list x.settings; areas = x.areas })
    (record { number = head_refusal file (length settings); settings = settings; areas = a })
