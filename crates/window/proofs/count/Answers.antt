-- Its stores are those of the definition, one after the other.
use Rattle.window.proofs.WindowAreaLaws.{counted_all}
use Rattle.window.proofs.count.Goals as goal

pub returns : goal.returns
returns c = counted_all _ _ _ _ _ c.raise.ensures c.raise-2.ensures c.raise-3.ensures c.raise-4.ensures
