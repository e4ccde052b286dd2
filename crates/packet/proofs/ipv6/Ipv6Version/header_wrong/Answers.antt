-- The tests are those of the definition.
use Rattle.std.proofs.Common.{length}
use borrow.Author.Tests.{lt-ltb, le-ltb}
use Rattle.theory.specs.Packet6.{header6_wrong}
use Rattle.packet.proofs.ipv6.Ipv6Version.header_wrong.Goals as goal

pub returns-then-packet-lt40 : goal.returns-then-packet-lt40
unfolding header6_wrong
returns-then-packet-lt40 c = rw (lt-ltb _ _ c.if-packet-lt40.true)

pub returns : goal.returns
unfolding header6_wrong
returns c = rw (c.version.ensures, le-ltb (length c.args.packet.now) 40 c.if-packet-lt40.false)
