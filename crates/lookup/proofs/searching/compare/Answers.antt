-- `lookup::searching::compare` meets its contract, by what the scan says.
use Rattle.std.proofs.Common.{◌+◌, ◌*◌, length}
use lib.Seq.{drop-drop}
use Rattle.theory.specs.Records.{record_at}
use Rattle.lookup.proofs.searching.compare.Goals as goal

pub returns-in-Some : goal.returns-in-Some
returns-in-Some c =
    rw (c.in-Some.ensures.finds, c.in-Some.ensures.compares, c.class_at.ensures)
    (unfold record_at in rw (drop-drop (length c.args.key.now) (c.in-Some.i * (length c.args.key.now + 4)) c.args.place.now))

pub returns : goal.returns
returns c = rw (c.in_default.ensures.finds, c.in_default.ensures.compares)
