-- `lines::show_call` meets its contract: bytes left over, another letter, or a call, as `print_bytes` has them.
use Rattle.std.proofs.Common.{length}
use Rattle.theory.specs.Flowrun.{flowrun_settings}
use Rattle.lines.proofs.LineLaws.{shown_call}
use Rattle.lines.proofs.show_call.Goals as goal

pub returns-clause-shown : goal.returns-clause-shown
unfolding flowrun_settings
returns-clause-shown c =
    λ n. shown_call (length c.args.work.now) n c.args.bytes.now _ _ _ _ _ c.in-Some.ensures.asked c.perform-reply.ensures.performed c.printed.ensures
