-- Add, change and remove as one: what they share as the code holds it.
use Rattle.std.specs.Prelude.{◌≡◌, Bool, true, false, cond, not, Result, Ok, Err, List, [], ◌∷◌, ◌++◌, ℕ, ◌+◌, ◌-◌, ◌*◌, ◌^◌, ◌≤◌, ◌<◌, leb, length, take, drop}
use Rattle.theory.specs.Settings as plain
use Rattle.theory.specs.Settings.{Card, allowed, record_size, ledger_length, work_length}
use Rattle.theory.specs.Records.{class_width, Record, records, record_bytes}
use Rattle.theory.specs.Layout.{Areas}
use Rattle.theory.specs.Ledger.{Call, add, change, remove, refusal, next, side_need_of}
use Rattle.theory.specs.Calls.{ledger_records, ledger_invalid}
use Rattle.theory.proofs.ListLaws.{All}
use Rattle.theory.proofs.ByteLaws.{Fit}
use Rattle.theory.proofs.CallLaws.{Sized}
use Rattle.settings.specs.declared.Settings.{Settings}
use Rattle.settings.specs.Checked.{paper, card}
use Rattle.ledger.specs.Edits.{ValidLedger}
use Rattle.placing.specs.Ready.{Ready}
use Rattle.placing.specs.Worked.{Placed}
use Rattle.update.specs.declared.editing.Edit.{Edit}
use Rattle.update.specs.declared.editing.Edit.TheVariants.{Insert, Replace, Remove}
use Rattle.update.specs.declared.editing.EditCall.{EditCall}
use Rattle.update.specs.declared.judging.Plan.{Plan}

-- ---- the call that an edit is
abbrev pub edit_call : Edit → List ℕ → ℕ → Call
edit_call Insert k x = add k x
edit_call Replace k x = change k x
edit_call Remove k x = remove k

abbrev pub call_of : EditCall → Call
call_of c = edit_call c.edit c.key.now c.class

-- how many records of the call it brings, and how many of the list it leaves out
abbrev pub brings : Edit → ℕ
brings Insert = 1
brings Replace = 1
brings Remove = 0

abbrev pub leaves_out : Edit → ℕ
leaves_out Insert = 0
leaves_out Replace = 1
leaves_out Remove = 1

-- what it makes of a list: at a place, with the record of the call
abbrev pub edited : Edit → ℕ → Record → List Record → List Record
edited edit at x l = take at l ++ (take (brings edit) (x ∷ []) ++ drop (at + leaves_out edit) l)

-- 6 and 8 of an add, 7 of the others, by whether the key is held and how many flows are; else 0
abbrev pub by_list : plain.Settings → Edit → Bool → ℕ → ℕ
by_list t Insert held n = cond held 6 (cond (leb t.capacity n) 8 0)
by_list t Replace held n = cond (not held) 7 0
by_list t Remove held n = cond (not held) 7 0

-- the number that judging a ledger area gives, with a key of the right width: 4, then the list's own refusal
unfoldable pub judged_number : Card → Call → List ℕ → ℕ
judged_number s c ledger = cond (ledger_invalid s ledger) 4 (refusal s c (ledger_records s ledger))

-- whether the key is held, and its place, as std's binary search answers
abbrev pub is_held : Result ℕ ℕ → Bool
is_held (Ok at) = true
is_held (Err at) = false

abbrev pub place_in : Result ℕ ℕ → ℕ
place_in (Ok at) = at
place_in (Err at) = at

-- the list that the call makes of those in a ledger area
abbrev pub edited_list : Settings → EditCall → List ℕ → List Record
edited_list s c ledger = next (card s) (call_of c) (ledger_records (card s) ledger)

-- what an edit makes, at a place, of the first n records of a ledger area
abbrev pub edited_at : Settings → Edit → ℕ → Record → ℕ → List ℕ → List Record
edited_at s edit at x n ledger = edited edit at x (records (card s).width n (drop 2 ledger))

-- what placing the new list asks, of n records in a ledger area: a place of the edit among them, and room in work and kept
pub record PlacingNew (s : Settings) (table ledger : List ℕ) (n : ℕ) (c : EditCall) (at : ℕ) (work kept : List ℕ) : Type 0 where
  pub ready : Ready s table
  pub words : length work ≡ work_length (card s)
  pub choices : n - leaves_out c.edit + brings c.edit ≤ length kept
  pub room : 2 + n * ((card s).width + class_width) ≤ length ledger
  pub few : n ≤ 4096
  pub place : at + leaves_out c.edit ≤ n
  pub wide : length c.«record».now ≡ (card s).width + class_width

-- a call holds the record of a key of the right width
pub record HasRecord (s : Settings) (c : EditCall) : Type 0 where
  pub wide : length c.key.now ≡ (card s).width
  pub small : c.class < 2 ^ 32
  pub written : c.«record».now ≡ record_bytes (record { key = c.key.now; class = c.class })

-- what judging asks: settings and a table that are ready, work, kept and ledger long enough
pub record Judging (s : Settings) (table ledger : List ℕ) (c : EditCall) (work kept : List ℕ) : Type 0 where
  pub ready : Ready s table
  pub words : length work ≡ work_length (card s)
  pub choices : (card s).capacity ≤ length kept
  pub whole : length ledger ≡ ledger_length (card s)
  pub call : HasRecord s c

-- what judging has found where it refuses nothing: the place of the edit, that the new list is placed, and its side need
pub record Planned (s : Settings) (c : EditCall) (ledger : List ℕ) (r : Plan) : Type 0 where
  pub valid : ledger_invalid (card s) ledger ≡ false
  pub place : r.at + leaves_out c.edit ≤ length (ledger_records (card s) ledger)
  pub room : length (edited_list s c ledger) ≤ (card s).capacity
  pub list : edited_list s c ledger ≡ edited c.edit r.at (record { key = c.key.now; class = c.class }) (ledger_records (card s) ledger)
  pub fit : All (Fit (card s).width) (edited_list s c ledger)
  pub placed : Placed (card s) (edited_list s c ledger) r.placement
  pub need : r.need ≡ side_need_of (card s) (edited_list s c ledger)
  pub enough : r.need ≤ (card s).side_places

-- what editing the ledger area asks: its rules, the place of the edit in its list, room for the new list, and the size of the record
pub record EditingLedger (s : Settings) (c : EditCall) (ledger : List ℕ) (at : ℕ) : Type 0 where
  pub valid : ValidLedger s ledger
  pub place : at + leaves_out c.edit ≤ length (ledger_records (card s) ledger)
  pub room : length (ledger_records (card s) ledger) + brings c.edit ≤ (card s).capacity + leaves_out c.edit
  pub wide : length c.«record».now ≡ record_size (card s)

-- what writing it asks: areas of their lengths, and the plan
pub record Making (s : Settings) (c : EditCall) (areas : Areas) (r : Plan) : Type 0 where
  pub ok : allowed (paper s) ≡ true
  pub call : HasRecord s c
  pub sized : Sized (card s) areas
  pub planned : Planned s c areas.ledger r

-- what an edit asks once its settings and lengths are judged
pub record Updating (s : Settings) (table work : List ℕ) (areas : Areas) : Type 0 where
  pub ready : Ready s table
  pub words : length work ≡ work_length (card s)
  pub sized : Sized (card s) areas
