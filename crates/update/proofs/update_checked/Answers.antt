-- 3, what judging refuses, else the layout of the new list
use Rattle.std.proofs.Common.{length, arith, sym, ap, ◌∙◌}
use Rattle.std.proofs.lemmas.Result.{err_from_is_err_and}
use Rattle.memory.proofs.RefusalLaws.{refused_number}
use Rattle.theory.proofs.SettingsLaws.{ranges}
use Rattle.settings.specs.Checked.{paper}
use Rattle.settings.proofs.Laws.{capacity_is, bounds}
use Rattle.update.proofs.WriteLaws.{updated_3, updated_refused, updated_made}
use Rattle.update.proofs.update_checked.Goals as goal

pub returns-then-key-width-clause-updated : goal.returns-then-key-width-clause-updated
returns-then-key-width-clause-updated c = updated_3 _ _ _ _ (λ w. c.if-key-width.true (w ∙ sym c.width.ensures))

pub record_in-record-requires : goal.record_in-record-requires
record_in-record-requires c = omega (arith, c.if-key-width.false, c.width.ensures, (bounds (paper c.args.s) c.requires.ready.ok).width_most)

pub judge-requires : goal.judge-requires
judge-requires c = record {
  ready = c.requires.ready;
  words = c.requires.words;
  choices = omega (arith, (ranges (paper c.args.s) c.requires.ready.ok).capacity_high, capacity_is (paper c.args.s));
  whole = ap length c.ledger_of.ensures ∙ c.requires.sized.ledger;
  call = record { wide = c.if-key-width.false ∙ c.width.ensures; small = c.ranges.class.fits; written = c.record_in-record.ensures };
}

pub returns-in_err-plan-clause-updated : goal.returns-in_err-plan-clause-updated
returns-in_err-plan-clause-updated c =
    let p = err_from_is_err_and c.from_residual.result c.from_residual.ensures.1 in
    rw (p.1, p.2) (updated_refused _ _ _ _ (c.if-key-width.false ∙ c.width.ensures) (rw c.ledger_of.ensures at c.in_err-plan.ensures.number) (refused_number _))

pub write_new-requires : goal.write_new-requires
write_new-requires c = record {
  ok = c.requires.ready.ok;
  call = record { wide = c.if-key-width.false ∙ c.width.ensures; small = c.ranges.class.fits; written = c.record_in-record.ensures };
  sized = c.requires.sized;
  planned = rw c.ledger_of.ensures at c.in_ok-plan.ensures.planned;
}

pub returns-clause-updated : goal.returns-clause-updated
returns-clause-updated c =
    let number = rw c.ledger_of.ensures at c.in_ok-plan.ensures.number in
    let planned = rw c.ledger_of.ensures at c.in_ok-plan.ensures.planned in
    updated_made _ _ _ _ (c.if-key-width.false ∙ c.width.ensures) (sym number) planned.valid
    c.write_new.ensures.written
