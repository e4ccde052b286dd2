-- What the writers of the side store ask: its record places with none, with one more, and with all that belong to the side.
use mathlib.Core.Path.{◌≡◌, refl, sym, ap, ◌∙◌}
use mathlib.Core.Bool.{Bool, true, false}
use mathlib.Core.List.{List, [], ◌∷◌, ◌++◌, append-nil}
use Prim.Native.Nat.{ℕ, suc, ◌+◌, ◌*◌, ◌<◌, ◌≤◌}
use native.Mathlib.Nat.{mul_comm, sub-zero, mul-zero}
use native.Mathlib.Omega.{arith}
use lib.ListN.{length, take, drop, length-append}
use Rattle.theory.specs.Lists.{filter}
use Rattle.theory.specs.Records.{Record, to_bytes, entries, record_at, records}
use Rattle.theory.specs.Settings.{Card, record_size, side_length}
use Rattle.theory.specs.Placing.{true_count, side_records, side_need}
use Rattle.theory.specs.Layout.{places, counted_places, side_bytes}
use Rattle.theory.specs.Ledger.{side_need_of}
use Rattle.theory.proofs.ListLaws.{All, filter_all}
use Rattle.theory.proofs.ByteLaws.{Fit}
use Rattle.theory.proofs.LayoutLaws.{length_places}
use Rattle.theory.proofs.GrowingLaws.{filter_mono, filter_append, records_more}
use Rattle.memory.proofs.SliceLaws.{back, zeros, row_fits}
use Rattle.placing.specs.declared.Placement.{Placement}
use Rattle.placing.specs.Worked.{nth, belongs_by, Placed}
use Rattle.placing.proofs.WorkLaws.{belongs_is, need_is}
use Rattle.writing.specs.Side.{sent_to_side, sent, sent_places}
use Rattle.writing.proofs.TurnLaws.{Turn, turn_record, turn_fit}
use Rattle.writing.proofs.BucketLaws.{places_more}

-- ---- the turn of record i
module _ {s : Card} {p : Placement} {n i : ℕ} {area : List ℕ} (h : Turn s.width n i area) (g : Placed s (records s.width n area) p) where
  abbrev this : Record
  this = record_at s.width (drop (i * (s.width + 4)) area)

  abbrev key : List ℕ
  key = take s.width (drop (i * (s.width + 4)) area)

  abbrev bytes : List ℕ
  bytes = take (s.width + 4) (drop (i * (s.width + 4)) area)

  abbrev goes : List ℕ → Bool
  goes = belongs_by s (nth p.counts.now) (nth p.choosers.now)

  abbrev stored : ℕ → List Record
  stored k = sent s p k area

  next_one : stored (i + 1) ≡ stored i ++ filter (λ r. goes r.key) (this ∷ [])
  unfolding sent_to_side
  next_one =
      ap (filter (λ r. goes r.key)) (records_more s.width i area) ∙ filter_append (λ r. goes r.key) (records s.width i area) (this ∷ [])

  pub not_sent : goes key ≡ false → stored i ≡ stored (i + 1)
  unfolding record_at
  not_sent e = sym (next_one ∙ rw (e, append-nil))

  one_more : goes key ≡ true → stored (i + 1) ≡ stored i ++ (this ∷ [])
  unfolding record_at
  one_more e = next_one ∙ rw e

  pub sent_length : goes key ≡ true → length (stored (i + 1)) ≡ length (stored i) + 1
  sent_length e = rw (one_more e, length-append)

  sent_mono : (k : ℕ) → k ≤ n → length (stored k) ≤ length (stored n)
  unfolding sent_to_side
  sent_mono k le = filter_mono s.width (λ r. goes r.key) k n area le

  fit : All (Fit s.width) (stored i)
  unfolding sent_to_side
  fit = filter_all (Fit s.width) (λ r. goes r.key) (records s.width i area) (turn_fit h i (omega arith))

  module _ (enough : length (stored n) ≤ s.side_places) where
    pub store_length : length (sent_places s p i area) ≡ record_size s * s.side_places
    store_length = length_places s s.side_places (stored i) fit (omega (arith, sent_mono i (omega arith)))

    module _ (yes : goes key ≡ true) where
      room : length (stored i) < s.side_places
      room = omega (arith, sent_length yes, sent_mono (i + 1) (omega arith))

      -- the place after the records so far lies within the store
      pub place_within : record_size s * length (stored i) + record_size s ≤ length (sent_places s p i area)
      place_within =
          rw (store_length, mul_comm (record_size s) (length (stored i)), mul_comm (record_size s) s.side_places)
          (row_fits (length (stored i)) s.side_places (record_size s) room)

      pub sent_put : back (record_size s * length (stored i)) (record_size s) (sent_places s p i area) bytes ≡ sent_places s p (i + 1) area
      sent_put =
          ap (back (record_size s * length (stored i)) (record_size s) (sent_places s p i area)) (sym (turn_record h))
          ∙ places_more s s.side_places (stored i) this fit room ∙ ap (places s s.side_places) (sym (one_more yes))

-- ---- none yet
module _ (s : Card) (p : Placement) (area : List ℕ) where
  pub sent_none : (n : ℕ) → n ≡ record_size s * s.side_places → zeros n ≡ sent_places s p 0 area
  unfolding places sent_to_side records entries
  sent_none n e = rw (e, sub-zero)

  pub none_sent : 0 ≡ record_size s * length (sent s p 0 area)
  unfolding sent_to_side records entries
  none_sent = sym (mul-zero (record_size s))

-- ---- no records: zeros
pub no_places : (s : Card) (n : ℕ) → counted_places s n [] ≡ zeros (2 + record_size s * n)
unfolding counted_places places to_bytes
no_places s n = let two : 2 + record_size s * n ≡ suc (suc (record_size s * n)) = omega arith in rw (sub-zero, two)

no_elements : (l : List Record) → length l ≡ 0 → l ≡ []
no_elements [] e = refl
no_elements (r ∷ rs) e = absurd (omega arith)

-- ---- all: whom the placement sends to the side, the list does
module _ {s : Card} {l : List Record} {p : Placement} (g : Placed s l p) where
  sent_all : sent_to_side s p l ≡ side_records s (true_count s l) l
  unfolding sent_to_side side_records
  sent_all = ap (λ (t : List ℕ → Bool). filter (λ (r : Record). t r.key) l) (λ i k. belongs_is g k i)

  pub sent_need : length (sent_to_side s p l) ≡ side_need_of s l
  unfolding sent_to_side
  sent_need = need_is g

  pub side_written : (n : ℕ) → n ≡ side_need_of s l
      → to_bytes 2 n ++ places s s.side_places (sent_to_side s p l) ≡ side_bytes s (true_count s l) l
  unfolding side_bytes counted_places side_need_of side_need
  side_written n e = rw (e, sent_all)

  -- none belongs to the side: zeros
  pub side_none : side_need_of s l ≡ 0 → side_bytes s (true_count s l) l ≡ zeros (side_length s)
  unfolding side_bytes side_length side_need_of side_need
  side_none e = ap (counted_places s s.side_places) (no_elements (side_records s (true_count s l) l) e) ∙ no_places s s.side_places
