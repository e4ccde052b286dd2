-- Put in and counted, the bytes are the ledger area of the new list, the law `insert_written`.
use Rattle.std.proofs.Common.{◌∙◌, arith, rules}
use Rattle.memory.proofs.SliceLaws.{bytes_of}
use Rattle.theory.proofs.SettingsLaws.{sound}
use Rattle.settings.specs.Checked.{paper, card}
use Rattle.ledger.proofs.LedgerLaws.{has_count}
use Rattle.ledger.proofs.LedgerEditLaws.{placed, count_listed, few_here, place_before_end, insert_room, insert_written}
use Rattle.ledger.proofs.edits.insert_record.Goals as goal

pub count_at-n-requires : goal.count_at-n-requires
count_at-n-requires c = has_count (card c.args.s) c.args.ledger.now c.requires.valid.size

pub place_of-requires-clause-listed : goal.place_of-requires-clause-listed
place_of-requires-clause-listed c = few_here (placed c.requires.valid c.count_at-n.ensures.0 c.requires.place)

pub insert_bytes-requires-clause-order : goal.insert_bytes-requires-clause-order
insert_bytes-requires-clause-order c = omega (arith, place_before_end (placed c.requires.valid c.count_at-n.ensures.0 c.requires.place))

pub insert_bytes-requires-clause-room : goal.insert_bytes-requires-clause-room
insert_bytes-requires-clause-room c = omega (arith, insert_room (placed c.requires.valid c.count_at-n.ensures.0 c.requires.place) c.requires.free)

pub write_number-requires : goal.write_number-requires
write_number-requires c =
    let listed = count_listed (placed c.requires.valid c.count_at-n.ensures.0 c.requires.place) in
    let small = (sound (paper c.args.s) c.requires.valid.permitted).capacity_small in
    (omega (arith, c.insert_bytes.auto.area, has_count (card c.args.s) c.args.ledger.now c.requires.valid.size), omega (arith, listed, c.requires.free, small))

pub returns : goal.returns
returns c = λ x e.
    c.write_number.ensures
    ∙ insert_written (placed c.requires.valid c.count_at-n.ensures.0 c.requires.place) (bytes_of c.args.ledger.now (λ i. search rules)) c.requires.free
    _ _ c.place_of-place.ensures c.place_of.ensures _ _ c.requires.size c.insert_bytes.ensures x e
