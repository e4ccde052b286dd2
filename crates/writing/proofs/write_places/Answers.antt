-- `writing::write_places` meets its contract: the part of the ledger area after its count is lent whole.
use mathlib.Core.Path.{refl}
use Rattle.memory.proofs.SliceLaws.{tail_is}
use Rattle.writing.proofs.write_places.Goals as goal

pub returns : goal.returns
returns c =
    let records_lent = tail_is 2 c.args.ledger.now c.requires.counted in
    record { ledger = refl; buckets = rw records_lent at c.write_buckets.ensures; side = rw records_lent at c.write_side.ensures }
