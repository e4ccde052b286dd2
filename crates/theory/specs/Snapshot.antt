-- Document 01, 'Snapshot', with the files of document 02, U7: a file of settings and records, saved from a ledger area and loaded into every area.
use Rattle.std.specs.Prelude.{Bool, cond, not, ◌||◌, List, [], ◌∷◌, ◌++◌, ℕ, ◌+◌, ◌*◌, ltb, eqb, length, take, drop}
use Rattle.theory.specs.Lists.{all, flat}
use Rattle.theory.specs.Records.{Record, to_bytes, of_bytes, count_of, record_bytes, records, rising}
use Rattle.theory.specs.Settings.{Settings, ipv4_width, allowed, card_of, record_size, ledger_length, work_length}
use Rattle.theory.specs.Layout.{Areas, layout}
use Rattle.theory.specs.Ledger.{side_short}
use Rattle.theory.specs.Calls.{ledger_records, ledger_invalid, all_lengths}

-- a section: a two-byte count, then the entries
unfoldable pub section : {A : Type 0} → (A → List ℕ) → List A → List ℕ
section f l = to_bytes 2 (length l) ++ flat f l

abbrev pub settings_list : Settings → List ℕ
settings_list t = t.p ∷ t.k ∷ t.room ∷ t.top ∷ t.capacity ∷ t.side_places ∷ t.width ∷ []

abbrev pub settings_count : ℕ
settings_count = 7

-- "two sections, each after its two-byte count: 6 settings of two bytes .., then the records": how many settings a file has. Those of width 13 are saved with
-- first count 6, without the width; those of width 37 with 7, the width last
unfoldable pub first_count : Settings → ℕ
first_count t = cond (eqb t.width ipv4_width) 6 settings_count

-- with so many settings: where the second count stands, after the first and the settings; and the bytes of the head, up to the first record
abbrev pub second_count_at : ℕ → ℕ
second_count_at c = 2 + 2 * c

abbrev pub head_size : ℕ → ℕ
head_size c = second_count_at c + 2

-- the settings, then the records
unfoldable pub snapshot : Settings → List Record → List ℕ
snapshot t l = section (to_bytes 2) (take (first_count t) (settings_list t)) ++ section record_bytes l

-- ---- save: the answer's number, and the target buffer after the call; 1, 2, 4, 9, 12
pub record Saved : Type 0 where
  pub number : ℕ
  pub target : List ℕ

unfoldable pub save : Settings → List ℕ → ℕ → List ℕ → Saved
save t ledger w target =
    let s = card_of t in
    let l = ledger_records s ledger in
    cond (not (allowed t)) (record { number = 1; target = target })
    (cond (not (all (λ x. x) (eqb w (work_length s) ∷ eqb (length ledger) (ledger_length s) ∷ []))) (record { number = 2; target = target })
    (cond (ledger_invalid s ledger) (record { number = 4; target = target })
    (cond (side_short s l) (record { number = 9; target = target })
    (cond (not (eqb (length target) (head_size (first_count t) + record_size s * length l))) (record { number = 12; target = target })
    (record { number = 0; target = snapshot t l })))))

-- ---- load: the answer's number, the settings handed back, and the areas after the call
pub record Loaded : Type 0 where
  pub number : ℕ
  pub settings : Settings
  pub areas : Areas

-- setting i of a file, from 0; and all: a file of six has keys of 13 bytes
abbrev pub setting : List ℕ → ℕ → ℕ
setting f i = of_bytes (take 2 (drop (2 + 2 * i) f))

unfoldable pub file_settings : List ℕ → Settings
file_settings f =
    record {
      p = setting f 0;
      k = setting f 1;
      room = setting f 2;
      top = setting f 3;
      capacity = setting f 4;
      side_places = setting f 5;
      width = cond (eqb (count_of f) 6) ipv4_width (setting f 6);
    }

-- the second count, and the records after it
unfoldable pub file_count : List ℕ → ℕ
file_count f = count_of (drop (second_count_at (count_of f)) f)

unfoldable pub file_records : List ℕ → List Record
file_records f = records (card_of (file_settings f)).width (file_count f) (drop (head_size (count_of f)) f)

-- "12, a cut .. file, a first count not" 6 or 7: no allowed first count, its settings and the second count are there, and nothing else is judged
unfoldable pub head_wrong : List ℕ → Bool
head_wrong f = not (eqb (count_of f) 6 || eqb (count_of f) 7) || ltb (length f) (head_size (count_of f))

-- 12 also for a first count that these settings are not saved with, a 7 with width 13
abbrev pub first_wrong : Settings → List ℕ → Bool
first_wrong t f = not (eqb (count_of f) (first_count t))

-- and for a cut or overlong file
unfoldable pub body_wrong : Settings → List ℕ → Bool
body_wrong t f = first_wrong t f || not (eqb (length f) (head_size (count_of f) + record_size (card_of t) * file_count f))

-- refused: settings handed back are zeros, areas unaltered
abbrev pub no_settings : Settings
no_settings = record { p = 0; k = 0; room = 0; top = 0; capacity = 0; side_places = 0; width = 0 }

abbrev pub not_loaded : ℕ → Areas → Loaded
not_loaded n a = record { number = n; settings = no_settings; areas = a }

-- 12 for the head; then 1, 2, 8, 12 for a 7 with width 13 and for a cut or overlong file, 13, and 9 only when nothing else applies
unfoldable pub load : List ℕ → ℕ → Areas → Loaded
load f w a =
    let t = file_settings f in
    let s = card_of t in
    cond (head_wrong f) (not_loaded 12 a)
    (cond (not (allowed t)) (not_loaded 1 a)
    (cond (not (all (λ x. x) (eqb w (work_length s) ∷ all_lengths s a))) (not_loaded 2 a)
    (cond (ltb t.capacity (file_count f)) (not_loaded 8 a)
    (cond (body_wrong t f) (not_loaded 12 a)
    (cond (not (rising (file_records f))) (not_loaded 13 a)
    (cond (side_short s (file_records f)) (not_loaded 9 a) (record { number = 0; settings = t; areas = layout s (file_records f) })))))))

-- ---- the settings of a file's head, so that a caller can size its areas before loading: the answer's number, and the area for them after the call
pub record HandedBack : Type 0 where
  pub number : ℕ
  pub settings : List ℕ

-- with an area of n numbers for them: "12 without a head; 1; 2, settings not of 7 numbers; 12, a 7 with width 13; else 0". The second count and what
-- follows it are not judged
unfoldable pub head_refusal : List ℕ → ℕ → ℕ
head_refusal f n =
    let t = file_settings f in
    cond (head_wrong f) 12 (cond (not (allowed t)) 1 (cond (not (eqb n settings_count)) 2 (cond (first_wrong t f) 12 0)))

-- what is handed back with a number: the settings, or zeros when refused
abbrev pub handed_with : ℕ → Settings → Settings
handed_with n t = cond (eqb n 0) t no_settings

-- the seven settings; "refused, zeros in an area of 7 numbers, another one as it was"
unfoldable pub head_settings : List ℕ → List ℕ → HandedBack
head_settings f area =
    let n = head_refusal f (length area) in
    record { number = n; settings = cond (eqb (length area) settings_count) (settings_list (handed_with n (file_settings f))) area }
