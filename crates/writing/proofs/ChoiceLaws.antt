-- What a kept choice says of its record: whether it belongs to the side and, where it does not, the bucket that it chooses.
use mathlib.Core.Path.{◌≡◌, ap, ◌∙◌}
use mathlib.Core.List.{List}
use Prim.Native.Nat.{ℕ, zero, suc, ◌+◌, ◌*◌, ◌<◌, ◌≤◌}
use native.Mathlib.Nat.{zero-mul, suc-mul, add_comm, le_of_suc-le-suc}
use native.Mathlib.Omega.{arith}
use mir.Syntax.{w8}
use mir.Val.{Fits}
use lib.ListN.{length, take, drop, get_or}
use lib.Seq.{drop-drop}
use Rattle.theory.specs.Records.{entries, record_at, records}
use Rattle.theory.specs.Settings.{Card}
use Rattle.theory.specs.Placing.{true_count}
use Rattle.theory.proofs.SettingsLaws.{sound}
use Rattle.settings.specs.declared.Settings.{Settings}
use Rattle.settings.specs.Checked.{paper, card}
use Rattle.placing.specs.declared.Placement.{Placement}
use Rattle.placing.specs.Worked.{nth, belongs_by, choice_by, choices_by, side_by_choice}
use Rattle.placing.proofs.WorkLaws.{counts_are, side_choice, placed_within}
use Rattle.memory.proofs.SliceLaws.{bytes_of}
use Rattle.writing.proofs.TurnLaws.{Turn}
use Rattle.writing.specs.Laying.{Laying, placed_records}

-- ---- the choices of n records in an area, whose keys have w bytes
abbrev pub turn_key : ℕ → ℕ → List ℕ → List ℕ
turn_key w i area = take w (drop (i * (w + 4)) area)

choice_at : (s : Card) (c : ℕ → ℕ) (w n i : ℕ) (area : List ℕ) → i < n → nth (choices_by s c (records w n area)) i ≡ choice_by s c (turn_key w i area)
unfolding records entries record_at
choice_at s c w zero i area h = absurd (omega arith)
choice_at s c w (suc n) zero area h = rw zero-mul
choice_at s c w (suc n) (suc i) area h =
    choice_at s c w n i (drop (w + 4) area) (le_of_suc-le-suc h)
    ∙ rw (suc-mul, add_comm (i * (w + 4)) (w + 4), drop-drop (i * (w + 4)) (w + 4) area)

-- ---- those that are kept of a placed list
module _ {s : Settings} {p : Placement} {area : List ℕ} (h : Laying s p area) (i : ℕ) where
  -- the turn of its record, where the area is of bytes
  pub turn : i < length p.choices.now → ((k : ℕ) → Fits w8 (get_or area k 0)) → Turn (card s).width (length p.choices.now) i area
  turn below octets = record { wide = h.records_fit; below = below; octets = bytes_of area octets }

  pub kept_most : nth p.choices.now i ≤ (card s).buckets
  kept_most = placed_within h.placed (sound (paper s) h.ok) i

  pub kept_is : i < length p.choices.now → nth p.choices.now i ≡ choice_by (card s) (nth p.counts.now) (turn_key (card s).width i area)
  kept_is below =
      let l = placed_records (card s) p area in
      rw (counts_are h.placed)
      (ap (λ (k : List ℕ). nth k i) h.placed.choices ∙ choice_at (card s) (true_count (card s) l) _ (length p.choices.now) i area below)

  pub kept_side : i < length p.choices.now → side_by_choice (card s) (nth p.choosers.now) (nth p.choices.now i)
      ≡ belongs_by (card s) (nth p.counts.now) (nth p.choosers.now) (turn_key (card s).width i area)
  kept_side below = rw (kept_is below) (side_choice (card s) (sound (paper s) h.ok) _ _ _)
