-- Taken out and counted, the bytes are the ledger area of the new list, the law `remove_written`.
use Rattle.std.proofs.Common.{◌∙◌, arith, rules}
use Rattle.memory.proofs.SliceLaws.{bytes_of}
use Rattle.settings.specs.Checked.{card}
use Rattle.ledger.proofs.LedgerLaws.{has_count}
use Rattle.ledger.proofs.LedgerEditLaws.{standing, count_listed, few_here, place_listed, next_before_end, end_inside, remove_written}
use Rattle.ledger.proofs.edits.remove_record.Goals as goal

pub count_at-n-requires : goal.count_at-n-requires
count_at-n-requires c = has_count (card c.args.s) c.args.ledger.now c.requires.valid.size

pub place_of-requires-clause-listed : goal.place_of-requires-clause-listed
place_of-requires-clause-listed c = place_listed (standing c.requires.valid c.count_at-n.ensures.0 c.requires.place)

pub overflow_add-at : goal.overflow_add-at
overflow_add-at c = omega (arith, c.requires.place, count_listed (standing c.requires.valid c.count_at-n.ensures.0 c.requires.place))

pub place_of-requires-2-clause-listed : goal.place_of-requires-2-clause-listed
place_of-requires-2-clause-listed c =
    let p = standing c.requires.valid c.count_at-n.ensures.0 c.requires.place in
    omega (arith, c.requires.place, count_listed p, few_here p)

pub place_of-requires-3-clause-listed : goal.place_of-requires-3-clause-listed
place_of-requires-3-clause-listed c = few_here (standing c.requires.valid c.count_at-n.ensures.0 c.requires.place)

pub remove_bytes-requires-clause-then : goal.remove_bytes-requires-clause-then
remove_bytes-requires-clause-then c = omega (arith, next_before_end (standing c.requires.valid c.count_at-n.ensures.0 c.requires.place) c.requires.place)

pub remove_bytes-requires-clause-room : goal.remove_bytes-requires-clause-room
remove_bytes-requires-clause-room c = omega (arith, end_inside (standing c.requires.valid c.count_at-n.ensures.0 c.requires.place))

pub overflow_sub-n : goal.overflow_sub-n
overflow_sub-n c = omega (arith, c.requires.place, count_listed (standing c.requires.valid c.count_at-n.ensures.0 c.requires.place))

pub write_number-requires : goal.write_number-requires
write_number-requires c = (omega (arith, c.remove_bytes.auto.area, has_count (card c.args.s) c.args.ledger.now c.requires.valid.size), omega arith)

pub returns : goal.returns
returns c =
    c.write_number.ensures
    ∙ remove_written (standing c.requires.valid c.count_at-n.ensures.0 c.requires.place) (bytes_of c.args.ledger.now (λ i. search rules)) c.requires.place
    _ _ _ c.place_of.ensures c.place_of-2.ensures c.place_of-3.ensures _ c.remove_bytes.ensures
