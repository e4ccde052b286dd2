-- What the writers of the layout have at hand: allowed settings, and a list that is placed. Its records lie in an area.
use Rattle.std.specs.Prelude.{◌≡◌, true, List, ℕ, ◌+◌, ◌*◌, ◌≤◌, length}
use Rattle.theory.specs.Settings.{Card, allowed, true_length, clipped_length, buckets_length, side_length}
use Rattle.theory.specs.Records.{class_width, Record, records}
use Rattle.theory.specs.Layout.{Areas, layout}
use Rattle.settings.specs.declared.Settings.{Settings}
use Rattle.settings.specs.Checked.{paper, card}
use Rattle.placing.specs.declared.Placement.{Placement}
use Rattle.placing.specs.Worked.{Placed}

-- as many records of an area as have a choice
abbrev pub placed_records : Card → Placement → List ℕ → List Record
placed_records s p area = records s.width (length p.choices.now) area

pub record Laying (s : Settings) (p : Placement) (area : List ℕ) : Type 0 where
  pub ok : allowed (paper s) ≡ true
  pub records_fit : length p.choices.now * ((card s).width + class_width) ≤ length area
  pub placed : Placed (card s) (placed_records (card s) p area) p

-- the ledger area has its count, and every other its length
pub record Writable (s : Card) (a : Areas) : Type 0 where
  pub ledger : 2 ≤ length a.ledger
  pub true_counts : length a.true_counts ≡ true_length s
  pub clipped_counts : length a.clipped_counts ≡ clipped_length s
  pub buckets : length a.buckets ≡ buckets_length s
  pub side_store : length a.side_store ≡ side_length s

-- the layout of a list, with these bytes in the ledger's place
abbrev pub laid : Card → List Record → List ℕ → Areas
laid s l bytes = record (layout s l) { ledger = bytes }
