-- A call that is read, as the code holds it.
use Rattle.std.specs.Prelude.{Some, None}
use Rattle.std.specs.Prelude as prelude
use Rattle.std.proofs.Math.Option.{Option, none, some}
use Rattle.theory.specs.Ledger as plain
use Rattle.calls.specs.declared.data.Call.{Call}
use Rattle.calls.specs.Data.{call_of}

-- the paper's call; none where there is none
abbrev pub call_asked : prelude.Option Call → Option plain.Call
call_asked (Some call) = some (call_of call)
call_asked None = none
