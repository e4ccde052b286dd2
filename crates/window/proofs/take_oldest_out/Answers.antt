-- Its stores are those of the definition.
use Rattle.window.proofs.WindowAreaLaws.{flag_is, taken_out}
use Rattle.window.proofs.take_oldest_out.Goals as goal

pub returns : goal.returns
returns c =
    let e = c.from-e.result in
    taken_out _ _ c.from-place.ensures c.from-e.ensures
    (rw (flag_is e.held c.from.ensures, flag_is e.side_compared c.from-2.ensures) at c.count.ensures)
