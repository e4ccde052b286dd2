-- each answer is the definition's
use Rattle.std.proofs.Common.{◌≡◌, ℕ, ◌-◌, List, length, take, drop, arith, sym, ap, ◌∙◌}
use Rattle.std.proofs.lemmas.Result.{err_from_is_err_and}
use Rattle.theory.specs.Records.{records}
use Rattle.theory.specs.Layout.{counted_places, layout}
use Rattle.theory.proofs.ListLaws.{All, all_take, all_drop}
use Rattle.theory.proofs.ByteLaws.{Byte}
use Rattle.memory.proofs.SliceLaws.{bytes_of}
use Rattle.theory.specs.Ledger.{side_need_of}
use Rattle.theory.proofs.SettingsLaws.{ranges, sound}
use Rattle.settings.specs.declared.Settings.{Settings}
use Rattle.settings.specs.Checked.{paper, card}
use Rattle.settings.proofs.Laws.{capacity_is, side_places_are}
use Rattle.ledger.proofs.LedgerLaws.{has_count}
use Rattle.placing.specs.declared.Placement.{Placement}
use Rattle.placing.specs.Worked.{Placed}
use Rattle.writing.proofs.LaidLedgerLaws.{LaidLedger, written_list, lays, layout_written}
use Rattle.placing.proofs.WorkLaws.{placed_within}
use Rattle.snapshot.specs.declared.reading.Head.{Head}
use Rattle.snapshot.proofs.FileLaws.{FullFile, full_file, lent_full, lent_listed}
use Rattle.snapshot.proofs.LoadLaws.{ledger_laid, loads_refused, loads_9, loads_0}
use Rattle.snapshot.proofs.loading.load_checked.Goals as goal

-- the ledger area that is written holds the file's list
written : (s : Settings) {f : List ℕ} {h : Head} {size : ℕ} → FullFile (paper s) f h size → All Byte f → {ledger : List ℕ} {p : Placement}
    → ledger ≡ counted_places (card s) (card s).capacity (records (card s).width h.count (take (length f - h.size) (drop h.size f)))
    → Placed (card s) (records (card s).width h.count (take (length f - h.size) (drop h.size f))) p
    → LaidLedger s (records (card s).width h.count (take (length f - h.size) (drop h.size f))) ledger p
written s {f} {h} full bytes is placed =
    ledger_laid s _ (lent_full full) (all_take Byte (length f - h.size) (drop h.size f) (all_drop Byte h.size f bytes))
    (omega (arith, full.few, capacity_is (paper s))) is placed

pub returns-in_err-refusal_by_file-clause-loaded : goal.returns-in_err-refusal_by_file-clause-loaded
returns-in_err-refusal_by_file-clause-loaded c =
    let p = err_from_is_err_and c.from_residual.result c.from_residual.ensures.1 in
    rw (p.1, p.2) (loads_refused c.requires _ c.in_err-refusal_by_file.ensures)

pub place_list-placement-requires : goal.place_list-placement-requires
place_list-placement-requires c =
    let full = full_file (paper c.args.s) c.requires.head (sym c.in_ok-refusal_by_file.ensures) in
    record {
      ready = c.requires.ready;
      full = lent_full full;
      words = c.requires.words;
      choices = omega (arith, full.few, (ranges (paper c.args.s) c.requires.ready.ok).capacity_high);
      few = omega (arith, full.few, (ranges (paper c.args.s) c.requires.ready.ok).capacity_high);
    }

pub side_need-need-requires-clause-within : goal.side_need-need-requires-clause-within
side_need-need-requires-clause-within c = placed_within c.place_list-placement.ensures (sound (paper c.args.s) c.requires.ready.ok)

pub returns-then-s-need-clause-loaded : goal.returns-then-s-need-clause-loaded
returns-then-s-need-clause-loaded c =
    let none = sym c.in_ok-refusal_by_file.ensures in
    let full = full_file (paper c.args.s) c.requires.head none in
    let need = c.side_need-need.ensures _ c.place_list-placement.ensures ∙ ap (side_need_of (card c.args.s)) (lent_listed full) in
    loads_9 c.requires none need (omega (arith, c.if-s-need.true, side_places_are (paper c.args.s)))

pub write_ledger-requires : goal.write_ledger-requires
write_ledger-requires c =
    let full = full_file (paper c.args.s) c.requires.head (sym c.in_ok-refusal_by_file.ensures) in
    record {
      ok = c.requires.ready.ok;
      whole = c.requires.sized.ledger;
      few = omega (arith, full.few, capacity_is (paper c.args.s));
      full = lent_full full;
    }

pub lay_out-requires-clause-laying : goal.lay_out-requires-clause-laying
lay_out-requires-clause-laying c =
    let full = full_file (paper c.args.s) c.requires.head (sym c.in_ok-refusal_by_file.ensures) in
    lays (written c.args.s full (bytes_of c.args.file.now c.type_inv.file) c.write_ledger.ensures c.place_list-placement.ensures) c.requires.ready.ok

pub lay_out-requires-clause-need : goal.lay_out-requires-clause-need
lay_out-requires-clause-need c =
    let full = full_file (paper c.args.s) c.requires.head (sym c.in_ok-refusal_by_file.ensures) in
    let laid = written c.args.s full (bytes_of c.args.file.now c.type_inv.file) c.write_ledger.ensures c.place_list-placement.ensures in
    c.side_need-need.ensures _ c.place_list-placement.ensures ∙ ap (side_need_of (card c.args.s)) (sym (written_list laid))

pub lay_out-requires-clause-lengths : goal.lay_out-requires-clause-lengths
lay_out-requires-clause-lengths c =
    let sized = c.requires.sized in
    record {
      ledger = omega (arith, c.write_ledger.auto.ledger, has_count (card c.args.s) c.args.areas.now.ledger.now sized.ledger);
      true_counts = sized.true_counts;
      clipped_counts = sized.clipped_counts;
      buckets = sized.buckets;
      side_store = sized.side_store;
    }

pub lay_out-requires-clause-enough : goal.lay_out-requires-clause-enough
lay_out-requires-clause-enough c = omega (arith, c.if-s-need.false, side_places_are (paper c.args.s))

pub returns-clause-loaded : goal.returns-clause-loaded
returns-clause-loaded c =
    let none = sym c.in_ok-refusal_by_file.ensures in
    let full = full_file (paper c.args.s) c.requires.head none in
    let need = c.side_need-need.ensures _ c.place_list-placement.ensures ∙ ap (side_need_of (card c.args.s)) (lent_listed full) in
    let laid = written c.args.s full (bytes_of c.args.file.now c.type_inv.file) c.write_ledger.ensures c.place_list-placement.ensures in
    loads_0 c.requires none need (omega (arith, c.if-s-need.false, side_places_are (paper c.args.s))) c.from.ensures
    (layout_written laid c.lay_out.ensures.laid ∙ ap (layout (card c.args.s)) (lent_listed full))
