-- A key's bucket numbers, as the code holds them.
use Rattle.std.specs.Prelude.{◌≡◌, List, ℕ, ◌-◌, ◌≤◌, length, take, drop, replicate}
use Rattle.hash.specs.declared.Numbers.{Numbers}

abbrev pub list_of : Numbers → List ℕ
list_of r = take r.count r.at

-- r holds the numbers l, and zeros after them
pub record Holds (r : Numbers) (l : List ℕ) : Type 0 where
  pub is : list_of r ≡ l
  pub few : r.count ≤ 4
  pub long : length r.at ≡ 4
  pub rest_zero : drop r.count r.at ≡ replicate (4 - r.count) 0
