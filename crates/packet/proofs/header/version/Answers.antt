-- By the definition.
use Rattle.std.proofs.Common.{rules}
use Rattle.theory.specs.Packet.{version}
use Rattle.packet.proofs.header.version.Goals as goal

pub returns : goal.returns
unfolding version
returns c = search rules
