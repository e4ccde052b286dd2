-- Laws of loading: the ledger area of a file's records, and each answer is `load`'s.
use mathlib.Core.Path.{◌≡◌, sym, ◌∙◌}
use mathlib.Core.Bool.{Bool, true, false, cond, not, ◌&&◌}
use mathlib.Core.List.{List, ◌++◌, append_assoc}
use Prim.Native.Nat.{ℕ, ◌+◌, ◌-◌, ◌*◌, ◌≤◌, ◌<◌}
use native.Mathlib.Nat.{mul_comm, mul-sub}
use native.Mathlib.Omega.{arith}
use lib.Dec.{ltb, eqb}
use borrow.Author.Tests.{lt-ltb, le-ltb, eq-eqb, ne_eqb}
use lib.ListN.{length, take, drop, length-append, length-drop}
use lib.Seq.{take_at, drop_at}
use Rattle.theory.specs.Settings as plain
use Rattle.theory.specs.Settings.{allowed, record_size, ledger_length, work_length}
use Rattle.theory.specs.Records.{to_bytes, records, rising}
use Rattle.theory.specs.Ledger.{side_need_of, side_short}
use Rattle.theory.specs.Layout.{Areas, places, counted_places, layout}
use Rattle.theory.specs.Snapshot.{file_settings, file_count, file_records, head_wrong, body_wrong, not_loaded, load}
use Rattle.theory.proofs.ListLaws.{All, by_test}
use Rattle.theory.proofs.ByteLaws.{Byte, length_to_bytes, length_records, records_fit}
use Rattle.theory.proofs.Demands.{all_lengths_right}
use Rattle.memory.specs.declared.refusals.Refusal.{Refusal}
use Rattle.memory.specs.Refusals.{number_of}
use Rattle.memory.proofs.RefusalLaws.{refused_number}
use Rattle.settings.specs.declared.Settings.{Settings}
use Rattle.settings.specs.Checked.{paper, card}
use Rattle.memory.proofs.SliceLaws.{zeros, back, tail_back, length_tail}
use Rattle.ledger.proofs.LedgerLaws.{room_for}
use Rattle.placing.specs.declared.Placement.{Placement}
use Rattle.placing.specs.Worked.{Placed}
use Rattle.writing.proofs.LaidLedgerLaws.{LaidLedger}
use Rattle.writing.proofs.JudgedLaws.{Tested, tested_is}
use Rattle.writing.proofs.LaidLedgerLaws.{short_by}
use Rattle.snapshot.specs.declared.reading.Head.{Head}
use Rattle.snapshot.specs.Files.{listed, by_file, Filling, Loading}
use Rattle.snapshot.proofs.FullPartLaws.{full_bytes}

-- ---- the ledger area of n records that fill a part
module _ {s : Settings} {old list : List ℕ} {n : ℕ} (f : Filling s old list n) where
  pub end_within : 2 + length list ≤ length old
  unfolding record_size
  end_within = omega (arith, room_for (card s) old f.whole n f.few, f.full, mul_comm ((card s).width + 4) n)

  -- x, after the count is written; ys, the records as they are copied
  module _ {x : List ℕ} (counted : x ≡ to_bytes 2 n ++ drop 2 old) where
    x_long : length x ≡ length old
    x_long = rw (counted, length-append, length_to_bytes, length-drop) (omega (arith, end_within))

    pub copy_end : 2 + length list ≤ length x
    copy_end = rw x_long end_within

    module _ {ys : List ℕ} (copied : ys ≡ list) where
      abbrev joined : List ℕ
      joined = back 2 (2 + length list - 2) x ys

      joined_is : joined ≡ (to_bytes 2 n ++ list) ++ drop (2 + length list - 2) (drop 2 old)
      joined_is =
          let two = length_to_bytes 2 n in
          rw (counted, copied, take_at (to_bytes 2 n) (drop 2 old) 2 two, drop_at (to_bytes 2 n) (drop 2 old) 2 two, append_assoc)

      front_long : length (to_bytes 2 n ++ list) ≡ 2 + length list
      front_long = rw (length-append, length_to_bytes)

      joined_long : length joined ≡ length old
      joined_long = rw (joined_is, length-append, front_long, length-drop, length-drop) (omega (arith, end_within))

      pub zeros_start : 2 + length list ≤ length joined
      zeros_start = rw joined_long end_within

      after : length (take (length joined - (2 + length list)) (drop (2 + length list) joined)) ≡ record_size (card s) * ((card s).capacity - n)
      unfolding ledger_length record_size
      after =
          rw (length_tail (2 + length list) joined zeros_start, joined_long, f.whole, mul-sub, f.full, mul_comm ((card s).width + 4) n) (omega arith)

      pub ledger_written : All Byte list → {zs : List ℕ} → zs ≡ zeros (length (take (length joined - (2 + length list)) (drop (2 + length list) joined)))
          → back (2 + length list) (length joined - (2 + length list)) joined zs ≡ counted_places (card s) (card s).capacity (records (card s).width n list)
      unfolding counted_places places
      ledger_written bytes {zs} cleared =
          tail_back (2 + length list) joined zs zeros_start
          ∙ rw (
            cleared,
            after,
            joined_is,
            take_at (to_bytes 2 n ++ list) (drop (2 + length list - 2) (drop 2 old)) (2 + length list) front_long,
            append_assoc,
            full_bytes (card s).width n list f.full bytes,
            length_records (card s).width n list,
          )

-- ---- once the ledger area is written
pub ledger_laid : (s : Settings) (list : List ℕ) {ledger : List ℕ} {n : ℕ} {p : Placement} → length list ≡ n * ((card s).width + 4) → All Byte list
    → n ≤ (card s).capacity → ledger ≡ counted_places (card s) (card s).capacity (records (card s).width n list)
    → Placed (card s) (records (card s).width n list) p → LaidLedger s (records (card s).width n list) ledger p
ledger_laid s list {n = n} full bytes few is placed =
    record {
      fit = records_fit (card s).width n list (omega (arith, full)) bytes;
      few = rw (length_records (card s).width n list) few;
      is = is;
      placed = placed;
    }

-- ---- the call: 12, 1, 2
module _ (f : List ℕ) (w : ℕ) (a : Areas) where
  pub loads_12 : head_wrong f ≡ true → not_loaded 12 a ≡ load f w a
  unfolding load
  loads_12 e = rw e

  pub loads_1 : head_wrong f ≡ false → allowed (file_settings f) ≡ false → not_loaded 1 a ≡ load f w a
  unfolding load
  loads_1 whole e = rw (whole, e)

pub loads_2 : (f : List ℕ) {s : Settings} {w z : ℕ} {a : Areas} {right : Bool} → head_wrong f ≡ false → Tested (file_settings f) s w z a right
    → (eqb w z && right) ≡ false → not_loaded 2 a ≡ load f w a
unfolding load
loads_2 f whole j e = let q = sym (tested_is j) ∙ e in rw (whole, j.settings.ok, q)

-- ---- 8, 12, 13, 9, or the layout
module _ {s : Settings} {table f work : List ℕ} {h : Head} {a : Areas} (g : Loading s table f h work a) where
  loads_on : load f (length work) a
      ≡ cond (ltb s.capacity (file_count f)) (not_loaded 8 a)
      (cond (body_wrong (paper s) f) (not_loaded 12 a)
      (cond (not (rising (listed (paper s) f))) (not_loaded 13 a)
      (cond (side_short (card s) (listed (paper s) f)) (not_loaded 9 a)
      (record { number = 0; settings = paper s; areas = layout (card s) (listed (paper s) f) }))))
  unfolding load file_records
  loads_on = rw (g.head.right, ← g.same, g.ready.ok, eq-eqb (length work) (work_length (card s)) g.words, all_lengths_right (card s) a g.sized)

  -- what the file decides, and 9
  loads_by : load f (length work) a
      ≡ cond (eqb (by_file (paper s) f) 0)
      (cond (side_short (card s) (listed (paper s) f)) (not_loaded 9 a)
      (record { number = 0; settings = paper s; areas = layout (card s) (listed (paper s) f) }))
      (not_loaded (by_file (paper s) f) a)
  unfolding by_file
  loads_by =
      let by_keys = by_test (rising (listed (paper s) f)) in
      loads_on
      ∙ by_test (ltb s.capacity (file_count f)) (λ e. rw e)
      (λ e. rw e (by_test (body_wrong (paper s) f) (λ q. rw q) (λ q. rw q (by_keys (λ r. rw r) (λ r. rw r)))))

  pub loads_refused : (x : Refusal) → number_of x ≡ by_file (paper s) f → not_loaded (number_of x) a ≡ load f (length work) a
  loads_refused x e = rw (loads_by, ← e, ne_eqb (number_of x) 0 (refused_number x))

  module _ (none : by_file (paper s) f ≡ 0) {need : ℕ} (is : need ≡ side_need_of (card s) (listed (paper s) f)) where
    pub loads_9 : (card s).side_places < need → not_loaded 9 a ≡ load f (length work) a
    loads_9 h = rw (loads_by, none, short_by _ _ is, lt-ltb (card s).side_places need h)

    pub loads_0 : need ≤ (card s).side_places → {u : plain.Settings} → u ≡ paper s → {b : Areas} → b ≡ layout (card s) (listed (paper s) f)
        → record { number = 0; settings = u; areas = b } ≡ load f (length work) a
    loads_0 h same e = rw (same, loads_by, none, short_by _ _ is, le-ltb (card s).side_places need h, e)
