-- `calls::call` meets its contract: each kind is its callee's call, which asks no more than what is judged.
use Rattle.std.proofs.Common.{◌≡◌, ap}
use Rattle.update.specs.Editing.{edit_call}
use Rattle.calls.specs.Data.{call_of}
use Rattle.calls.proofs.CallingLaws.{clear_asks, update_asks, search_asks, tally_asks, clear_gives, update_gives, search_gives, tally_gives}
use Rattle.calls.proofs.call.Goals as goal
use Rattle.calls.proofs.call.Goals.{in-Add, in-Change, in-Remove}

pub returns-in-Clear-clause-called : goal.returns-in-Clear-clause-called
returns-in-Clear-clause-called c =
    let is = ap call_of c.in-Clear.is in
    rw c.answer_only.ensures (clear_gives _ _ is (c.clear_areas.ensures.cleared _ (clear_asks c.requires is)))

pub search_checked-requires : goal.search_checked-requires
search_checked-requires c = search_asks c.requires _ (ap call_of c.in-Search.is) _ c.lookup.ensures

pub returns-in-Search-clause-called : goal.returns-in-Search-clause-called
returns-in-Search-clause-called c = search_gives _ _ _ (ap call_of c.in-Search.is) c.lookup.ensures c.search_checked.ensures

pub tally_checked-requires-clause-checked : goal.tally_checked-requires-clause-checked
tally_checked-requires-clause-checked c = (tally_asks c.requires (ap call_of c.in-Tally.is)).0

pub tally_checked-requires-clause-whole : goal.tally_checked-requires-clause-whole
tally_checked-requires-clause-whole c = (tally_asks c.requires (ap call_of c.in-Tally.is)).1

pub returns-in-Tally-clause-called : goal.returns-in-Tally-clause-called
returns-in-Tally-clause-called c = tally_gives _ _ (ap call_of c.in-Tally.is) c.tally_checked.ensures

pub update_checked-requires : goal.update_checked-requires
update_checked-requires c =
    let is : call_of c.args.call ≡ edit_call c.match-call.edit.0 c.match-call.edit.1.now c.match-call.edit.2 =
    elim c.match-call.branch [
      | in-Add w ↦ rw (w.in-Add.is, w.edit-is)
      | in-Change w ↦ rw (w.in-Change.is, w.edit-is)
      | in-Remove w ↦ rw (w.in-Remove.is, w.edit-is)
    ] in
    update_asks c.requires _ _ _ is

pub returns-clause-called : goal.returns-clause-called
returns-clause-called c =
    let is : call_of c.args.call ≡ edit_call c.match-call.edit.0 c.match-call.edit.1.now c.match-call.edit.2 =
    elim c.match-call.branch [
      | in-Add w ↦ rw (w.in-Add.is, w.edit-is)
      | in-Change w ↦ rw (w.in-Change.is, w.edit-is)
      | in-Remove w ↦ rw (w.in-Remove.is, w.edit-is)
    ] in
    rw c.answer_only-2.ensures (update_gives _ _ _ _ _ is c.update_checked.ensures.updated)
