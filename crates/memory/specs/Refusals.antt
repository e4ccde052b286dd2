-- The paper's number of a refusal, and of what a call answers: "An accepted call answers 0".
use Rattle.std.specs.Prelude.{ℕ, Result, Ok, Err}
use Rattle.memory.specs.declared.refusals.Refusal.{Refusal}
use Rattle.memory.specs.declared.refusals.Refusal.TheVariants as is

abbrev pub number_of : Refusal → ℕ
number_of is.SettingOutOfRange = 1
number_of is.WrongAreaLength = 2
number_of is.WrongKeyLength = 3
number_of is.InvalidLedger = 4
number_of is.InvalidLookup = 5
number_of is.AlreadyHeld = 6
number_of is.NotHeld = 7
number_of is.LedgerFull = 8
number_of is.SideStoreFull = 9
number_of is.WrongHeader = 10
number_of is.PortsCut = 11
number_of is.WrongFile = 12
number_of is.KeysNotRising = 13
number_of is.UnknownCall = 14
number_of is.WrongLoad = 15
number_of is.WrongIpv6Header = 16

-- what a call answers that hands over nothing, and one that hands over a value
abbrev pub answer_of : {A : Type 0} → Result A Refusal → ℕ
answer_of (Ok x) = 0
answer_of (Err e) = number_of e
