-- The record's bytes put in place are the ledger area of the new list, the law `replace_written`.
use Rattle.std.proofs.Common.{arith, rules, refl}
use Rattle.memory.proofs.SliceLaws.{bytes_of}
use Rattle.ledger.proofs.LedgerEditLaws.{standing, place_listed, next_before_end, end_inside, replace_written}
use Rattle.ledger.proofs.edits.replace_record.Goals as goal

pub place_of-start-requires-clause-listed : goal.place_of-start-requires-clause-listed
place_of-start-requires-clause-listed c = place_listed (standing c.requires.valid refl c.requires.place)

pub overflow_add-stop : goal.overflow_add-stop
overflow_add-stop c =
    let p = standing c.requires.valid refl c.requires.place in
    omega (arith, next_before_end p c.requires.place, end_inside p)

pub slice_bounds-copy-end : goal.slice_bounds-copy-end
slice_bounds-copy-end c =
    let p = standing c.requires.valid refl c.requires.place in
    omega (arith, next_before_end p c.requires.place, end_inside p)

pub returns : goal.returns
returns c = λ x e.
    replace_written (standing c.requires.valid refl c.requires.place) (bytes_of c.args.ledger.now (λ i. search rules)) c.requires.place
    _ c.place_of-start.ensures _ _ c.requires.size c.copy.ensures x e
