-- `placing::aside` meets its contract: a choice that is a bucket is no choice of the side.
use Rattle.std.proofs.Common.{◌≢◌, arith}
use borrow.Author.Tests.{ne_eqb}
use Rattle.settings.specs.Checked.{card, paper}
use Rattle.settings.proofs.Laws.{room_is}
use Rattle.placing.proofs.aside.Goals as goal

pub returns-in-Some : goal.returns-in-Some
returns-in-Some c =
    let found = c.in-Some.ensures.lookup in
    let other : c.args.choice ≢ (card c.args.s).buckets = omega (arith, found.3.0, c.from.ensures) in
    let read = found.4 (omega arith) 0 in
    rw (ne_eqb c.args.choice (card c.args.s).buckets other, c.from-in-Some.ensures, read, c.from.ensures, room_is (paper c.args.s))
