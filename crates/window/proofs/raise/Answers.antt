-- A word is below 2^16, so the sum fits.
use Rattle.std.proofs.Common.{rules}
use Rattle.theory.specs.Window.{raised}
use Rattle.window.proofs.raise.Goals as goal

pub returns : goal.returns
unfolding raised
returns c = search rules
