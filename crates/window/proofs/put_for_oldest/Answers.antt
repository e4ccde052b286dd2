-- Its stores are those of the definition, one after the other.
use Rattle.window.proofs.WindowAreaLaws.{flag_is, come_for}
use Rattle.window.proofs.put_for_oldest.Goals as goal

pub returns : goal.returns
returns c =
    let e = c.args.e in
    let left = c.from-left.result in
    come_for _ _ c.from-first.ensures c.from.ensures c.from-2.ensures _ c.from-left.ensures
    (rw (flag_is e.held c.from-3.ensures, flag_is left.held c.from-4.ensures) at c.raise.ensures)
    (rw (flag_is e.side_compared c.from-5.ensures, flag_is left.side_compared c.from-6.ensures) at c.raise-2.ensures) c.raise-3.ensures c.raise-4.ensures
