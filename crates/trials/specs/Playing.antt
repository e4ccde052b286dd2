-- What playing a load asks, what one call of it gives, and what areas that hold a list are.
use Rattle.std.specs.Prelude.{◌≡◌, true, List, ℕ, ◌≤◌, ◌<◌, length}
use Rattle.theory.specs.Settings.{Card, allowed, work_length}
use Rattle.theory.specs.Records.{Record, count_of}
use Rattle.theory.specs.Layout.{Areas, layout}
use Rattle.theory.specs.Ledger.{Call}
use Rattle.theory.specs.Calls.{call}
use Rattle.theory.specs.Trials.{Numbers, counted}
use Rattle.theory.specs.Demands.{HasLayout, Sized}
use Rattle.settings.specs.declared.Settings.{Settings}
use Rattle.settings.specs.Checked.{paper, card}
use Rattle.placing.specs.Ready.{Ready}
use Rattle.bench_load.specs.declared.BenchLoad.{BenchLoad}
use Rattle.trials.specs.Data.{Grown}

-- a load that `read_load` has given: a flow, and at most 2^32 calls
pub record Playable (load : BenchLoad) : Type 0 where
  pub flows : 0 < load.flows
  pub calls : load.count ≤ 4294967296

-- areas hold a list: they are its layout
pub record Holds (s : Card) (areas : Areas) : Type 0 where
  pub list : List Record
  pub fits : HasLayout s list
  pub same : areas ≡ layout s list

-- settings, a table of the hash, work and areas that every call can be made on
pub record Playing (s : Settings) (table work : List ℕ) (areas : Areas) : Type 0 where
  pub ready : Ready s table
  pub words : length work ≡ work_length (card s)
  pub sized : Sized (card s) areas

-- the same before the table is made
pub record PlayingParts (s : Settings) (work : List ℕ) (areas : Areas) : Type 0 where
  pub ok : allowed (paper s) ≡ true
  pub words : length work ≡ work_length (card s)
  pub sized : Sized (card s) areas

-- ledger, true counts, clipped counts, buckets, side store and work, of 64 KiB each
pub record Lent (areas : Areas) (work : List ℕ) : Type 0 where
  pub ledger_long : length areas.ledger ≡ 65536
  pub true_long : length areas.true_counts ≡ 32768
  pub clipped_long : length areas.clipped_counts ≡ 65536
  pub buckets_long : length areas.buckets ≡ 65536
  pub side_long : length areas.side_store ≡ 65536
  pub work_long : length work ≡ 32768

-- a call on areas a with numbers x so far: the areas are as it leaves them, and what it gives back is counted
pub record Played (s : Card) (c : Call) (a : Areas) (x : Numbers) (after : Areas) (y : Numbers) : Type 0 where
  pub areas : after ≡ (call s c a).state
  pub numbers : y ≡ counted (call s c a).reply (count_of (call s c a).state.side_store) x
  pub grown : Grown x y
