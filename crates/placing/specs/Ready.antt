-- What functions ask: allowed settings and the right table of the hash, of an allowed length; and records that can be placed.
use Rattle.std.specs.Prelude.{◌≡◌, true, List, ℕ, ◌+◌, ◌≤◌, length}
use Rattle.theory.specs.Lists.{has}
use Rattle.theory.specs.Settings.{allowed}
use Rattle.settings.specs.declared.Settings.{Settings}
use Rattle.settings.specs.Checked.{paper, card}
use Rattle.hash.specs.Table.{table_lengths, TableFor}
use Rattle.placing.specs.declared.Parts.{Parts}
use Rattle.placing.specs.Worked.{nth, held, held_all}

pub record Ready (s : Settings) (table : List ℕ) : Type 0 where
  pub ok : allowed (paper s) ≡ true
  pub right : TableFor (card s).width table
  pub long : has (length table) (table_lengths (card s).width) ≡ true

-- the records of a part can be counted: a count for each bucket, which can grow by their number
pub record Counting (s : Settings) (table counts part : List ℕ) : Type 0 where
  pub ready : Ready s table
  pub buckets : length counts ≡ (card s).buckets
  pub few : (b : ℕ) → nth counts b + held (card s).width part ≤ 60000

-- a list that lies in three parts can be counted
pub record CountingParts (s : Settings) (table counts : List ℕ) (p : Parts) : Type 0 where
  pub ready : Ready s table
  pub buckets : length counts ≡ (card s).buckets
  pub few : held_all (card s).width p ≤ 60000

-- the records of a part can choose: a count for each bucket, a number of choosers, which can grow by their number, and a place for each choice
pub record Choosing (s : Settings) (table counts choosers part choices : List ℕ) : Type 0 where
  pub ready : Ready s table
  pub buckets : length counts ≡ (card s).buckets
  pub halves : length choosers ≡ (card s).buckets
  pub few : (b : ℕ) → nth choosers b + held (card s).width part ≤ 60000
  pub places : length choices ≡ held (card s).width part

-- the same of a list that lies in three parts
pub record ChoosingParts (s : Settings) (table counts choosers : List ℕ) (p : Parts) (choices : List ℕ) : Type 0 where
  pub ready : Ready s table
  pub buckets : length counts ≡ (card s).buckets
  pub halves : length choosers ≡ (card s).buckets
  pub few : held_all (card s).width p ≤ 60000
  pub places : length choices ≡ held_all (card s).width p

-- a list that lies in three parts can be placed: work has two numbers for each bucket, and there is a place for each choice
pub record Placing (s : Settings) (table : List ℕ) (p : Parts) (work choices : List ℕ) : Type 0 where
  pub ready : Ready s table
  pub halves : length work ≡ (card s).buckets + (card s).buckets
  pub few : held_all (card s).width p ≤ 60000
  pub places : length choices ≡ held_all (card s).width p
