-- Where a scan of records ended, as the code holds it.
use Rattle.std.specs.Prelude.{◌≡◌, Option, None, Some, List, ℕ, ◌+◌, ◌*◌, ◌≤◌, ◌<◌, length, drop}
use Rattle.std.proofs.Math.Option as plain
use Rattle.std.proofs.Math.Option.{none, some}
use Rattle.theory.specs.Records.{Record, class_width, record_at, records, find, comparisons}

-- what a scan asks: n records as wide as the key's lie in the place, and the key is short
pub record Scannable (place : List ℕ) (n : ℕ) (key : List ℕ) : Type 0 where
  pub fits : n * (length key + class_width) ≤ length place
  pub short : length key ≤ 64

-- the same for a scan of all places of a bucket, of which the first n have records: a key of a word at least, and a few places
pub record AllScannable (place : List ℕ) (n room : ℕ) (key : List ℕ) : Type 0 where
  pub fits : room * (length key + class_width) ≤ length place
  pub long : 8 ≤ length key
  pub short : length key ≤ 64
  pub few : n ≤ room
  pub some : 1 ≤ room
  pub most : room ≤ 4096

-- which of n records in a place has the key, or none: that record, and how many were compared
abbrev pub found_at : List ℕ → List ℕ → Option ℕ → plain.Option Record
found_at key place None = none
found_at key place (Some i) = some (record_at (length key) (drop (i * (length key + class_width)) place))

abbrev pub compared_to : ℕ → Option ℕ → ℕ
compared_to n None = n
compared_to n (Some i) = i + 1

abbrev pub IsBelow : ℕ → Option ℕ → Type 0
IsBelow n None = Unit {0}
IsBelow n (Some i) = i < n

pub record IsPlaceOf (key : List ℕ) (n : ℕ) (place : List ℕ) (r : Option ℕ) : Type 0 where
  pub finds : find key (records (length key) n place) ≡ found_at key place r
  pub compares : comparisons key (records (length key) n place) ≡ compared_to n r
  pub few : IsBelow n r
