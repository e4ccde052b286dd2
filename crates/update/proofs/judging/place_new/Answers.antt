-- the list that the edit would make is what its three parts hold
use Rattle.std.proofs.Common.{◌≡◌, ℕ, List, sym, ◌∙◌, arith}
use lib.Seq.{length-take-le}
use Rattle.theory.specs.Settings.{record_size}
use Rattle.settings.specs.Checked.{paper, card}
use Rattle.settings.specs.declared.Settings.{Settings}
use Rattle.settings.proofs.Laws.{work_length_is}
use Rattle.update.specs.Editing.{PlacingNew, brings, leaves_out}
use Rattle.update.specs.declared.editing.EditCall.{EditCall}
use Rattle.update.proofs.EditKindLaws.{brings_most, size_is, Around, first_within, mid_within, after_within, last_within, all_held, new_list, total_is}
use Rattle.update.proofs.judging.place_new.Goals as goal

-- what lies around the edit's place, by how many records it leaves out and brings and the size of a record
around : {s : Settings} {table ledger : List ℕ} {n : ℕ} {call : EditCall} {at : ℕ} {work kept : List ℕ} → PlacingNew s table ledger n call at work kept
    → {lo k size : ℕ} → lo ≡ leaves_out call.edit → k ≡ brings call.edit → size ≡ record_size (card s)
    → Around (card s).width call.edit at n ledger call.«record».now lo k size
around {s = s} p left brought size =
    record { fits = p.place; room = p.room; wide = p.wide; left = left; brought = brought; size = size ∙ size_is (card s) }

pub overflow_mul-parts : goal.overflow_mul-parts
overflow_mul-parts c =
    let k = c.counts-left_out.ensures in
    let a = around c.requires k.left_out k.brought c.record_size-size.ensures in omega (arith, first_within a, last_within a)

pub overflow_add-parts : goal.overflow_add-parts
overflow_add-parts c =
    let k = c.counts-left_out.ensures in
    let a = around c.requires k.left_out k.brought c.record_size-size.ensures in omega (arith, first_within a, last_within a)

pub slice_bounds-parts-end : goal.slice_bounds-parts-end
slice_bounds-parts-end c =
    let k = c.counts-left_out.ensures in
    let a = around c.requires k.left_out k.brought c.record_size-size.ensures in omega (arith, first_within a, last_within a)

pub slice_bounds-parts-end-2 : goal.slice_bounds-parts-end-2
slice_bounds-parts-end-2 c =
    let k = c.counts-left_out.ensures in
    sym (length-take-le _ c.args.call.«record».now (mid_within (around c.requires k.left_out k.brought c.record_size-size.ensures)))

pub overflow_add-parts-2 : goal.overflow_add-parts-2
overflow_add-parts-2 c =
    let k = c.counts-left_out.ensures in
    let a = around c.requires k.left_out k.brought c.record_size-size.ensures in omega (arith, after_within a, last_within a)

pub overflow_mul-parts-4 : goal.overflow_mul-parts-4
overflow_mul-parts-4 c =
    let k = c.counts-left_out.ensures in
    let a = around c.requires k.left_out k.brought c.record_size-size.ensures in omega (arith, last_within a)

pub overflow_add-parts-3 : goal.overflow_add-parts-3
overflow_add-parts-3 c =
    let k = c.counts-left_out.ensures in
    let a = around c.requires k.left_out k.brought c.record_size-size.ensures in omega (arith, last_within a)

pub slice_bounds-parts-end-3 : goal.slice_bounds-parts-end-3
slice_bounds-parts-end-3 c =
    let k = c.counts-left_out.ensures in last_within (around c.requires k.left_out k.brought c.record_size-size.ensures)

pub placement_of-requires : goal.placement_of-requires
placement_of-requires c =
    let p = c.requires in
    let k = c.counts-left_out.ensures in
    let a = around p k.left_out k.brought c.record_size-size.ensures in
    record {
      ready = p.ready;
      halves = omega (arith, p.words, work_length_is (paper c.args.s));
      few = omega (arith, all_held a, p.few, brings_most c.args.call.edit);
      places = length-take-le _ c.args.kept.now (omega (arith, total_is a, p.choices)) ∙ total_is a ∙ sym (all_held a);
    }

pub returns : goal.returns
returns c =
    let k = c.counts-left_out.ensures in
    let a = around c.requires k.left_out k.brought c.record_size-size.ensures in λ x f g. rw (new_list a x f g) at c.placement_of.ensures
