-- A call as data, and what comes back, as the code holds them.
use Rattle.std.specs.Prelude.{Bool, true, false}
use Rattle.theory.specs.Ledger as plain
use Rattle.lookup.specs.Answers.{answer_of}
use Rattle.tally.specs.Tallies.{totals_of}
use Rattle.calls.specs.declared.data.Call.{Call}
use Rattle.calls.specs.declared.data.Call.TheVariants.{Clear, Add, Change, Remove, Search, Tally}
use Rattle.calls.specs.declared.data.Reply.{Reply}
use Rattle.calls.specs.declared.data.Reply.TheVariants.{Answered, Totalled}

-- the paper's call
abbrev pub call_of : Call → plain.Call
call_of Clear = plain.clear
call_of (Add key class) = plain.add key.now class
call_of (Change key class) = plain.change key.now class
call_of (Remove key) = plain.remove key.now
call_of (Search key) = plain.search key.now
call_of Tally = plain.tally

-- the paper's number and values
abbrev pub reply_of : Reply → plain.Reply
reply_of (Answered a) = plain.answered (answer_of a)
reply_of (Totalled x) = plain.totalled (totals_of x)

-- the calls that read a table and take a work area
abbrev pub is_update : plain.Call → Bool
is_update plain.clear = false
is_update (plain.add k x) = true
is_update (plain.change k x) = true
is_update (plain.remove k) = true
is_update (plain.search k) = false
is_update (plain.fetch k) = false
is_update plain.tally = false
