-- What a place says of a key and a list of records: the record of the key stands there, or it is not held and belongs there.
use Rattle.std.specs.Prelude.{◌≡◌, true, false, List, Result, MatchResult, ℕ, ◌≤◌, ◌<◌, length}
use Rattle.theory.specs.Records.{Record}
use Rattle.theory.specs.Ledger.{held, insert, replace, without}
use Rattle.ledger.specs.Edits.{inserted_at, removed_at, replaced_at}

-- held: its record stands, is taken out, and is changed at the place
pub record StandsAt (l : List Record) (key : List ℕ) (at : ℕ) : Type 0 where
  pub listed : at < length l
  pub says : held key l ≡ true
  pub removed : without key l ≡ removed_at at l
  pub replaced : (x : Record) → x.key ≡ key → replace x l ≡ replaced_at at x l

-- not held: a record of the key is put in at the place
pub record BelongsAt (l : List Record) (key : List ℕ) (at : ℕ) : Type 0 where
  pub within : at ≤ length l
  pub says : held key l ≡ false
  pub inserted : (x : Record) → x.key ≡ key → insert x l ≡ inserted_at at x l

-- as std's binary search answers: Ok of the place where it stands, or Err of the place where it belongs
abbrev pub SpotOf : List Record → List ℕ → Result ℕ ℕ → Type 0
SpotOf l key r = MatchResult r (StandsAt l key) (BelongsAt l key)
