-- The tests are those of the definition.
use Rattle.std.proofs.Common.{length}
use borrow.Author.Tests.{lt-ltb, le-ltb}
use Rattle.theory.specs.Packet.{header_wrong}
use Rattle.packet.proofs.ipv4.Ipv4Version.header_wrong.Goals as goal

pub returns-then-packet-lt20 : goal.returns-then-packet-lt20
unfolding header_wrong
returns-then-packet-lt20 c = rw (lt-ltb _ _ c.if-packet-lt20.true)

pub returns : goal.returns
unfolding header_wrong
returns c = rw (c.version.ensures, c.header_length-end.ensures, le-ltb (length c.args.packet.now) 20 c.if-packet-lt20.false)
