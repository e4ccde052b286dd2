-- The lines of 512 calls have room.
use Rattle.std.proofs.Common.{arith}
use Rattle.theory.specs.Flowrun.{call_count}
use Rattle.flowrun.proofs.run_calls.Goals as goal

pub run_calls-bytes-requires-clause-room : goal.run_calls-bytes-requires-clause-room
unfolding call_count
run_calls-bytes-requires-clause-room c = omega (arith, c.large_buffer-text.ensures, c.requires.few)
