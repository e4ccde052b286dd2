-- Laws of the areas as they are written: the side need judged; the layout of a list, once its ledger area is written; and the ledger area of a list l, with l
-- placed as p, in which the writers of the layout read its records.
use mathlib.Core.Path.{◌≡◌, ap, ◌∙◌}
use mathlib.Core.Bool.{true}
use mathlib.Core.List.{List, map}
use Prim.Native.Nat.{ℕ, ◌≤◌}
use lib.Dec.{ltb}
use lib.ListN.{length, drop, length-map}
use Rattle.theory.specs.Lists.{upto, All}
use Rattle.theory.specs.Settings.{Card, allowed, ledger_length}
use Rattle.theory.specs.Records.{Record}
use Rattle.theory.specs.Placing.{true_count}
use Rattle.theory.specs.Ledger.{side_need_of, side_short}
use Rattle.theory.specs.Layout.{Areas, counted_places, counter_bytes, buckets_bytes, side_bytes, layout, layout_by}
use Rattle.theory.proofs.ByteLaws.{Fit}
use Rattle.theory.proofs.LayoutLaws.{read_places, after_count, length_counted}
use Rattle.settings.specs.declared.Settings.{Settings}
use Rattle.settings.specs.Checked.{paper, card}
use Rattle.ledger.proofs.LedgerLaws.{records_room}
use Rattle.placing.specs.declared.Placement.{Placement}
use Rattle.placing.specs.Worked.{Placed}
use Rattle.writing.specs.Laying.{placed_records, laid, Laying}

-- 9 is judged by the need that was counted
pub short_by : (c : Card) (l : List Record) {need : ℕ} → need ≡ side_need_of c l → side_short c l ≡ ltb c.side_places need
unfolding side_short
short_by c l is = rw is

-- the areas as they are written: the ledger's as it was, the other four
pub areas_laid : (c : Card) (l : List Record) {old ledger trues clipped buckets side : List ℕ} → ledger ≡ old → trues ≡ map (true_count c l) (upto 0 c.buckets)
    → clipped ≡ counter_bytes c (true_count c l) → buckets ≡ buckets_bytes c (true_count c l) l → side ≡ side_bytes c (true_count c l) l
    → record { ledger = ledger; true_counts = trues; clipped_counts = clipped; buckets = buckets; side_store = side } ≡ laid c l old
unfolding layout layout_by
areas_laid c l ledger trues clipped buckets side = rw (ledger, trues, clipped, buckets, side)

-- the ledger area of a list, and the other four as they are written by its records k
pub laid_out : (c : Card) {k l : List Record} {ledger : List ℕ} {areas : Areas} → k ≡ l → ledger ≡ counted_places c c.capacity l → areas ≡ laid c k ledger
    → areas ≡ layout c l
unfolding layout layout_by
laid_out c same ledger areas = areas ∙ rw (same, ledger)

-- ---- the ledger area of a list that is placed
pub record LaidLedger (s : Settings) (l : List Record) (ledger : List ℕ) (p : Placement) : Type 0 where
  pub fit : All (Fit (card s).width) l
  pub few : length l ≤ (card s).capacity
  pub is : ledger ≡ counted_places (card s) (card s).capacity l
  pub placed : Placed (card s) l p

module _ {s : Settings} {l : List Record} {ledger : List ℕ} {p : Placement} (g : LaidLedger s l ledger p) where
  ledger_long : length ledger ≡ ledger_length (card s)
  unfolding ledger_length
  ledger_long = rw g.is (length_counted (card s) (card s).capacity l g.fit g.few)

  choices_long : length p.choices.now ≡ length l
  choices_long = ap length g.placed.choices ∙ rw length-map

  pub written_list : placed_records (card s) p (drop 2 ledger) ≡ l
  written_list = rw (choices_long, g.is, after_count (card s) (card s).capacity l) (read_places (card s) (card s).capacity l g.fit)

  pub lays : allowed (paper s) ≡ true → Laying s p (drop 2 ledger)
  lays ok =
      record {
        ok = ok;
        records_fit = rw choices_long (records_room (card s) ledger ledger_long (length l) g.few);
        placed = rw written_list g.placed;
      }

  pub layout_written : {b : Areas} → b ≡ laid (card s) (placed_records (card s) p (drop 2 ledger)) ledger → b ≡ layout (card s) l
  layout_written e = laid_out (card s) written_list g.is e
