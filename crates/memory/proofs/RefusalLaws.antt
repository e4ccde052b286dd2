-- No refusal has the number of an accepted call.
use mathlib.Core.Path.{◌≡◌}
use native.Mathlib.Omega.{arith}
use Rattle.memory.specs.declared.refusals.Refusal.{Refusal}
use Rattle.memory.specs.declared.refusals.Refusal.TheVariants as is
use Rattle.memory.specs.Refusals.{number_of}

pub refused_number : (x : Refusal) → number_of x ≡ 0 → ⊥
refused_number is.SettingOutOfRange e = omega arith
refused_number is.WrongAreaLength e = omega arith
refused_number is.WrongKeyLength e = omega arith
refused_number is.InvalidLedger e = omega arith
refused_number is.InvalidLookup e = omega arith
refused_number is.AlreadyHeld e = omega arith
refused_number is.NotHeld e = omega arith
refused_number is.LedgerFull e = omega arith
refused_number is.SideStoreFull e = omega arith
refused_number is.WrongHeader e = omega arith
refused_number is.PortsCut e = omega arith
refused_number is.WrongFile e = omega arith
refused_number is.KeysNotRising e = omega arith
refused_number is.UnknownCall e = omega arith
refused_number is.WrongLoad e = omega arith
refused_number is.WrongIpv6Header e = omega arith
