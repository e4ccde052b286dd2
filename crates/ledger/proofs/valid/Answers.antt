-- Each of the three tests is one of the rules, the laws `invalid_many`, `invalid_order` and `invalid_after`.
use Rattle.std.proofs.Common.{◌≤◌, not, length, sym, ap, ◌∙◌}
use Rattle.theory.specs.Settings.{card_of}
use Rattle.settings.specs.Checked.{card}
use Rattle.memory.proofs.SliceLaws.{tail_is}
use Rattle.ledger.proofs.LedgerLaws.{has_count, room_for, records_room, invalid_many, rises_lent, invalid_order, invalid_after}
use Rattle.ledger.proofs.valid.Goals as goal

pub count_at-n-requires : goal.count_at-n-requires
count_at-n-requires c = has_count (card c.args.s) c.args.ledger.now c.requires.size

pub returns-then-s-n : goal.returns-then-s-n
returns-then-s-n c = sym (ap not (invalid_many (card c.args.s) c.args.ledger.now _ c.count_at-n.ensures.0 (unfold card_of in c.if-s-n.true)))

pub slice_bounds-keys_rise-count : goal.slice_bounds-keys_rise-count
slice_bounds-keys_rise-count c = has_count (card c.args.s) c.args.ledger.now c.requires.size

pub slice_bounds-keys_rise-start : goal.slice_bounds-keys_rise-start
slice_bounds-keys_rise-start c = has_count (card c.args.s) c.args.ledger.now c.requires.size

pub keys_rise-requires : goal.keys_rise-requires
keys_rise-requires c =
    rw (tail_is 2 c.args.ledger.now (has_count (card c.args.s) c.args.ledger.now c.requires.size), c.width.ensures)
    (records_room (card c.args.s) c.args.ledger.now c.requires.size _ (unfold card_of in c.if-s-n.false))

pub place_of-requires-clause-listed : goal.place_of-requires-clause-listed
unfolding card_of
place_of-requires-clause-listed c = c.if-s-n.false

pub slice_bounds-all_zero-count : goal.slice_bounds-all_zero-count
slice_bounds-all_zero-count c =
    rw c.place_of.ensures (room_for (card c.args.s) c.args.ledger.now c.requires.size _ (unfold card_of in c.if-s-n.false))

pub slice_bounds-all_zero-start : goal.slice_bounds-all_zero-start
slice_bounds-all_zero-start c =
    rw c.place_of.ensures (room_for (card c.args.s) c.args.ledger.now c.requires.size _ (unfold card_of in c.if-s-n.false))

pub returns-then-not-keys_rise : goal.returns-then-not-keys_rise
returns-then-not-keys_rise c =
    let rises = rises_lent (card c.args.s) c.args.ledger.now c.requires.size _ c.count_at-n.result c.width.ensures in
    sym (ap not (invalid_order (card c.args.s) c.args.ledger.now _ c.count_at-n.ensures.0 (unfold card_of in c.if-s-n.false)
    (sym (c.keys_rise.ensures ∙ rises) ∙ c.if-not-keys_rise.true)))

pub returns : goal.returns
returns c =
    let few : c.count_at-n.result ≤ (card c.args.s).capacity = unfold card_of in c.if-s-n.false in
    let rises = rises_lent (card c.args.s) c.args.ledger.now c.requires.size _ c.count_at-n.result c.width.ensures in
    let inside : c.place_of.result ≤ length c.args.ledger.now = rw c.place_of.ensures (room_for (card c.args.s) c.args.ledger.now c.requires.size _ few) in
    rw (c.all_zero.ensures, tail_is c.place_of.result c.args.ledger.now inside, c.place_of.ensures)
    (sym (ap not (invalid_after (card c.args.s) c.args.ledger.now _ c.count_at-n.ensures.0 few (sym (c.keys_rise.ensures ∙ rises) ∙ c.if-not-keys_rise.false))))
