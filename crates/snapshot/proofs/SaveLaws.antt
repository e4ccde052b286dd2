-- Laws of saving: the head and the records' bytes are the snapshot; and each answer is `save`'s.
use mathlib.Core.Path.{◌≡◌, sym, ap, ◌∙◌}
use mathlib.Core.Bool.{true, false, cond, not, ◌&&◌, and-true}
use mathlib.Core.List.{List, ◌++◌}
use Prim.Native.Nat.{ℕ, ◌+◌, ◌-◌, ◌*◌, ◌≤◌, ◌<◌}
use native.Mathlib.Nat.{mul_comm}
use native.Mathlib.Omega.{arith}
use lib.Dec.{eqb}
use borrow.Author.Tests.{lt-ltb, le-ltb, eq-eqb, ne_eqb}
use lib.ListN.{length, drop, length-append, length-drop}
use lib.Seq.{take_at}
use Rattle.theory.specs.Lists.{flat}
use Rattle.theory.specs.Settings as plain
use Rattle.theory.specs.Settings.{allowed, card_of, record_size, ledger_length, work_length}
use Rattle.theory.specs.Records.{to_bytes, records}
use Rattle.theory.specs.Ledger.{side_need_of, side_short}
use Rattle.theory.specs.Calls.{ledger_records, ledger_invalid}
use Rattle.theory.specs.Snapshot.{first_count, head_size, Saved, snapshot, save}
use Rattle.theory.proofs.ListLaws.{All}
use Rattle.theory.proofs.ByteLaws.{Byte, length_records}
use Rattle.theory.proofs.SnapshotLaws.{head, snapshot_is, head_long}
use Rattle.settings.specs.declared.Settings.{Settings}
use Rattle.settings.specs.Checked.{paper, card}
use Rattle.memory.proofs.SliceLaws.{back, tail_back}
use Rattle.writing.proofs.JudgedLaws.{Permitted}
use Rattle.writing.proofs.LaidLedgerLaws.{short_by}
use Rattle.snapshot.specs.Files.{Saving}
use Rattle.snapshot.proofs.FullPartLaws.{full_bytes}

-- ---- what is written: h, the head, of z bytes, and ys, the records' bytes
module _ (t : plain.Settings) (n : ℕ) (list target : List ℕ) (full : length list ≡ n * ((card_of t).width + 4))
    (room : length target ≡ head_size (first_count t) + length list) {z : ℕ} (z_is : z ≡ head_size (first_count t)) where
  pub head_within : z ≤ length target
  head_within = omega (arith, room, z_is)

  module _ {h : List ℕ} (is : h ≡ flat (to_bytes 2) (head t n)) where
    h_long : length h ≡ z
    h_long = ap length is ∙ head_long t n ∙ sym z_is

    joined_long : length (h ++ drop z target) ≡ z + length list
    joined_long = rw (length-append, length-drop, h_long) (omega (arith, room, z_is))

    pub snapshot_written : All Byte list → {ys : List ℕ} → ys ≡ list
        → back z (length (h ++ drop z target) - z) (h ++ drop z target) ys ≡ snapshot t (records (card_of t).width n list)
    snapshot_written bytes {ys} copied =
        tail_back z (h ++ drop z target) ys (omega (arith, joined_long))
        ∙ rw (
          take_at h (drop z target) z h_long,
          is,
          copied,
          snapshot_is t (records (card_of t).width n list),
          length_records (card_of t).width n list,
          full_bytes (card_of t).width n list full bytes,
        )

-- ---- the call: 1, 2, 4, 9, 12, or the snapshot
abbrev pub answer : ℕ → List ℕ → Saved
answer n target = record { number = n; target = target }

module _ (ledger : List ℕ) (w : ℕ) (target : List ℕ) where
  pub saves_1 : (t : plain.Settings) → allowed t ≡ false → answer 1 target ≡ save t ledger w target
  unfolding save
  saves_1 t e = rw e

  -- the two lengths, as the code judges them
  pub saves_2 : {t : plain.Settings} {s : Settings} → Permitted t s → {x y : ℕ} → x ≡ work_length (card s) → y ≡ ledger_length (card s)
      → (eqb w x && eqb (length ledger) y) ≡ false → answer 2 target ≡ save t ledger w target
  unfolding save
  saves_2 p ex ey e = let q = rw (ex, ey, p.same) at e in rw (p.ok, and-true, q)

module _ {s : Settings} {table work ledger : List ℕ} (g : Saving s table work ledger) (target : List ℕ) where
  -- what is left once 1 and 2 are judged
  saves_on : save (paper s) ledger (length work) target
      ≡ cond (ledger_invalid (card s) ledger) (answer 4 target)
      (cond (side_short (card s) (ledger_records (card s) ledger)) (answer 9 target)
      (cond (not (eqb (length target) (head_size (first_count (paper s)) + record_size (card s) * length (ledger_records (card s) ledger)))) (answer 12 target)
      (answer 0 (snapshot (paper s) (ledger_records (card s) ledger)))))
  unfolding save
  saves_on = rw (g.ready.ok, eq-eqb (length work) (work_length (card s)) g.words, eq-eqb (length ledger) (ledger_length (card s)) g.whole)

  pub saves_4 : ledger_invalid (card s) ledger ≡ true → answer 4 target ≡ save (paper s) ledger (length work) target
  saves_4 e = rw (saves_on, e)

  module _ (valid : ledger_invalid (card s) ledger ≡ false) {need : ℕ} (is : need ≡ side_need_of (card s) (ledger_records (card s) ledger)) where
    pub saves_9 : (card s).side_places < need → answer 9 target ≡ save (paper s) ledger (length work) target
    saves_9 h = rw (saves_on, valid, short_by _ _ is, lt-ltb (card s).side_places need h)

    -- z, the bytes of the head, and k, those of the list, of n records
    module _ (h : need ≤ (card s).side_places) {z k n : ℕ} (z_is : z ≡ head_size (first_count (paper s))) (count : n ≡ length (ledger_records (card s) ledger))
        (full : k ≡ n * ((card s).width + 4)) where
      size_is : z + k ≡ head_size (first_count (paper s)) + record_size (card s) * length (ledger_records (card s) ledger)
      unfolding record_size
      size_is = rw (z_is, full, count, mul_comm ((card s).width + 4) (length (ledger_records (card s) ledger)))

      saves_by : save (paper s) ledger (length work) target
          ≡ cond (not (eqb (length target) (z + k))) (answer 12 target) (answer 0 (snapshot (paper s) (ledger_records (card s) ledger)))
      saves_by = rw (saves_on, valid, short_by _ _ is, le-ltb (card s).side_places need h, size_is)

      pub saves_12 : (length target ≡ z + k → ⊥) → answer 12 target ≡ save (paper s) ledger (length work) target
      saves_12 other = rw (saves_by, ne_eqb (length target) (z + k) other)

      pub saves_0 : length target ≡ z + k → {new : List ℕ} → new ≡ snapshot (paper s) (ledger_records (card s) ledger)
          → answer 0 new ≡ save (paper s) ledger (length work) target
      saves_0 e written = rw (saves_by, eq-eqb (length target) (z + k) e, written)
