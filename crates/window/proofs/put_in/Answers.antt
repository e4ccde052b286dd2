-- Its stores are those of the definition.
use Rattle.window.proofs.WindowAreaLaws.{flag_is, come_in}
use Rattle.window.proofs.put_in.Goals as goal

pub returns : goal.returns
returns c =
    let e = c.args.e in
    come_in _ _ c.from.ensures c.from-2.ensures c.from-3.ensures
    (rw (flag_is e.held c.from-4.ensures, flag_is e.side_compared c.from-5.ensures) at c.count.ensures)
