-- the edited ledger holds the new list, and the writers lay that out
use Rattle.std.proofs.Common.{ℕ, ◌≡◌, List, length, arith, sym, ap, ◌∙◌}
use Rattle.theory.specs.Records.{Record, record_bytes}
use Rattle.theory.specs.Ledger.{side_need_of}
use Rattle.theory.specs.Layout.{Areas, counted_places}
use Rattle.theory.specs.Calls.{ledger_records}
use Rattle.theory.proofs.ByteLaws.{length_record}
use Rattle.settings.specs.declared.Settings.{Settings}
use Rattle.settings.specs.Checked.{card}
use Rattle.ledger.proofs.LedgerLaws.{has_count}
use Rattle.writing.proofs.LaidLedgerLaws.{LaidLedger, written_list, lays, layout_written}
use Rattle.update.specs.declared.editing.EditCall.{EditCall}
use Rattle.update.specs.declared.judging.Plan.{Plan}
use Rattle.update.specs.Editing.{Making, edited, edited_list}
use Rattle.update.proofs.EditKindLaws.{size_is}
use Rattle.update.proofs.WriteLaws.{plan_room, plan_laid}
use Rattle.update.proofs.writing_new.write_new.Goals as goal

-- the edited ledger holds the new list
written : {s : Settings} {call : EditCall} {areas : Areas} {plan : Plan} → Making s call areas plan → {ledger : List ℕ}
    → ((r : Record) → record_bytes r ≡ call.«record».now
    → ledger ≡ counted_places (card s) (card s).capacity (edited call.edit plan.at r (ledger_records (card s) areas.ledger)))
    → LaidLedger s (edited_list s call areas.ledger) ledger plan.placement
written asked is = plan_laid asked.planned (is _ (sym asked.call.written))

pub edit_ledger-requires : goal.edit_ledger-requires
edit_ledger-requires c =
    let p = c.requires.planned in
    record {
      valid = record { permitted = c.requires.ok; size = c.requires.sized.ledger; rules = p.valid };
      place = p.place;
      room = plan_room p;
      wide =
          ap length c.requires.call.written ∙ length_record (card c.args.s).width _ (record { wide = c.requires.call.wide; small = c.requires.call.small })
          ∙ sym (size_is (card c.args.s));
    }

pub lay_out-requires-clause-laying : goal.lay_out-requires-clause-laying
lay_out-requires-clause-laying c = lays (written c.requires c.edit_ledger.ensures) c.requires.ok

pub lay_out-requires-clause-need : goal.lay_out-requires-clause-need
lay_out-requires-clause-need c =
    c.requires.planned.need ∙ ap (side_need_of (card c.args.s)) (sym (written_list (written c.requires c.edit_ledger.ensures)))

pub lay_out-requires-clause-lengths : goal.lay_out-requires-clause-lengths
lay_out-requires-clause-lengths c =
    let sized = c.requires.sized in
    record {
      ledger = omega (arith, c.edit_ledger.auto.ledger, has_count (card c.args.s) c.args.areas.now.ledger.now sized.ledger);
      true_counts = sized.true_counts;
      clipped_counts = sized.clipped_counts;
      buckets = sized.buckets;
      side_store = sized.side_store;
    }

pub returns-clause-written : goal.returns-clause-written
returns-clause-written c = layout_written (written c.requires c.edit_ledger.ensures) c.lay_out.ensures.laid
