-- What save and load share with a file as the code reads and writes it.
use Rattle.std.specs.Prelude.{◌≡◌, true, false, cond, not, List, Result, Ok, Err, ℕ, ◌+◌, ◌*◌, ◌≤◌, ◌<◌, ltb, length, drop}
use Rattle.theory.specs.Settings as plain
use Rattle.theory.specs.Settings.{allowed, card_of, record_size, ledger_length, work_length}
use Rattle.theory.specs.Records.{Record, count_of, class_width, records, rising}
use Rattle.theory.specs.Layout.{Areas}
use Rattle.theory.specs.Snapshot as snapshots
use Rattle.theory.specs.Snapshot.{settings_count, first_count, head_size, file_settings, file_count, head_wrong, body_wrong, no_settings, head_refusal}
use Rattle.theory.specs.Snapshot.{handed_with}
use Rattle.theory.proofs.CallLaws.{Sized}
use Rattle.memory.specs.declared.refusals.Refusal.{Refusal}
use Rattle.memory.specs.Refusals.{answer_of}
use Rattle.settings.specs.declared.Settings.{Settings}
use Rattle.settings.specs.declared.Given.{Given}
use Rattle.settings.specs.Checked.{paper, given_of, card}
use Rattle.placing.specs.Ready.{Ready}
use Rattle.snapshot.specs.declared.reading.Head.{Head}

-- the settings that an answer hands back: zeros when refused
abbrev pub settings_of : Result Given Refusal → plain.Settings
settings_of (Ok g) = given_of g
settings_of (Err e) = no_settings

-- a number and settings are handed back; and those of a file's head, with an area of n numbers for them
pub record Handed (r : Result Given Refusal) (n : ℕ) (t : plain.Settings) : Type 0 where
  pub number : answer_of r ≡ n
  pub settings : settings_of r ≡ t

abbrev pub HeadHanded : List ℕ → ℕ → Result Given Refusal → Type 0
HeadHanded f n r = Handed r (head_refusal f n) (handed_with (head_refusal f n) (file_settings f))

-- what loading answers, with the areas after it
abbrev pub loaded_of : Result Given Refusal → Areas → snapshots.Loaded
loaded_of r a = record { number = answer_of r; settings = settings_of r; areas = a }

-- what the head of a file says, as the code holds it, and that the head is there
pub record HeadOf (f : List ℕ) (r : Head) : Type 0 where
  pub right : head_wrong f ≡ false
  pub settings : r.settings ≡ count_of f
  pub size : r.size ≡ head_size (count_of f)
  pub count : r.count ≡ file_count f
  pub least : 6 ≤ count_of f
  pub few : count_of f ≤ settings_count
  pub there : r.size ≤ length f

-- the records of a file under settings
abbrev pub listed : plain.Settings → List ℕ → List Record
listed t f = records (card_of t).width (file_count f) (drop (head_size (count_of f)) f)

-- what placing a list asks, whose n records fill a part: room in kept for their choices
pub record PlacingList (s : Settings) (table list : List ℕ) (n : ℕ) (work kept : List ℕ) : Type 0 where
  pub ready : Ready s table
  pub full : length list ≡ n * ((card s).width + class_width)
  pub words : length work ≡ work_length (card s)
  pub choices : n ≤ length kept
  pub few : n ≤ 4096

-- 8, 12, 13, or 0
unfoldable pub by_file : plain.Settings → List ℕ → ℕ
by_file t f =
    cond (ltb t.capacity (file_count f)) 8
    (cond (body_wrong t f) 12 (cond (not (rising (listed t f))) 13 0))

-- ---- saving: a head, a snapshot of n records that fill a part, and what is asked once settings and lengths are judged
pub record WritingHead (s : Settings) (to : List ℕ) (n : ℕ) : Type 0 where
  pub ok : allowed (paper s) ≡ true
  pub long : length to ≡ head_size (first_count (paper s))
  pub small : n < 65536

pub record WritingSnapshot (s : Settings) (target list : List ℕ) (n : ℕ) : Type 0 where
  pub ok : allowed (paper s) ≡ true
  pub full : length list ≡ n * ((card s).width + class_width)
  pub long : length target ≡ head_size (first_count (paper s)) + length list
  pub few : n ≤ (card s).capacity

pub record Saving (s : Settings) (table work ledger : List ℕ) : Type 0 where
  pub ready : Ready s table
  pub words : length work ≡ work_length (card s)
  pub whole : length ledger ≡ ledger_length (card s)

-- ---- loading: n records that fill a part, into the ledger; and what is asked once settings and lengths are judged
pub record Filling (s : Settings) (ledger list : List ℕ) (n : ℕ) : Type 0 where
  pub ok : allowed (paper s) ≡ true
  pub whole : length ledger ≡ ledger_length (card s)
  pub few : n ≤ (card s).capacity
  pub full : length list ≡ n * ((card s).width + class_width)

pub record Loading (s : Settings) (table file : List ℕ) (h : Head) (work : List ℕ) (areas : Areas) : Type 0 where
  pub ready : Ready s table
  pub head : HeadOf file h
  pub same : paper s ≡ file_settings file
  pub words : length work ≡ work_length (card s)
  pub sized : Sized (card s) areas
