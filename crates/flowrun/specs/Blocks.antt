-- How flowrun goes through its input: in blocks of whole calls, with at most 17 bytes left between two of them.
use Rattle.std.specs.Prelude.{◌≡◌, ℕ, ◌-◌, ◌%◌, ◌≤◌, ◌<◌}

-- of the bytes of a buffer the first ones are whole calls, which are run, and fewer than a call's are left
pub record Split (whole end : ℕ) : Type 0 where
  pub inside : end ≤ 9216
  pub before : whole ≤ end
  pub short : end - whole < 18
  pub calls : whole % 18 ≡ 0
