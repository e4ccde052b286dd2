-- What the three edits are given and what they make: a ledger area within the rules, and a list of records with one more, one less or one other at a place.
use Rattle.std.specs.Prelude.{◌≡◌, true, false, List, ◌∷◌, ◌++◌, ℕ, ◌+◌, ◌-◌, length, take, drop, replicate}
use Rattle.theory.specs.Records.{Record}
use Rattle.theory.specs.Settings.{allowed, ledger_length}
use Rattle.theory.specs.Layout.{counted_places}
use Rattle.theory.specs.Calls.{ledger_records, ledger_invalid}
use Rattle.settings.specs.declared.Settings.{Settings}
use Rattle.settings.specs.Checked.{paper, card}

-- the list in a ledger area, and the ledger area of a list
abbrev pub list_in : Settings → List ℕ → List Record
list_in s a = ledger_records (card s) a

abbrev pub area_of : Settings → List Record → List ℕ
area_of s l = counted_places (card s) (card s).capacity l

abbrev pub inserted_at : ℕ → Record → List Record → List Record
inserted_at at x l = take at l ++ (x ∷ drop at l)

abbrev pub removed_at : ℕ → List Record → List Record
removed_at at l = take at l ++ drop (at + 1) l

abbrev pub replaced_at : ℕ → Record → List Record → List Record
replaced_at at x l = take at l ++ (x ∷ drop (at + 1) l)

-- bytes put in at a place, before those from there to an end; and those from a place to the next taken out, with zeros after what follows to an end
abbrev pub with_bytes : ℕ → ℕ → List ℕ → List ℕ → List ℕ
with_bytes place end new a = take place a ++ (new ++ (take (end - place) (drop place a) ++ drop (end + length new) a))

abbrev pub without_bytes : ℕ → ℕ → ℕ → List ℕ → List ℕ
without_bytes place next end a = take place a ++ (take (end - next) (drop next a) ++ (replicate (next - place) 0 ++ drop end a))

-- allowed settings, and a ledger area of their length that is within the rules
pub record ValidLedger (s : Settings) (a : List ℕ) : Type 0 where
  pub permitted : allowed (paper s) ≡ true
  pub size : length a ≡ ledger_length (card s)
  pub rules : ledger_invalid (card s) a ≡ false
