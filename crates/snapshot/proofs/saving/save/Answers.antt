-- 1, 2, then the call
use Rattle.std.proofs.Common.{length, eqb, ap, ◌∙◌}
use borrow.Author.Tests.{eqb-true}
use Rattle.std.proofs.lemmas.Result.{err_from_is_err_and}
use Rattle.theory.specs.Settings as plain
use Rattle.theory.specs.Snapshot.{save}
use Rattle.theory.proofs.ListLaws.{and_left, and_right}
use Rattle.settings.specs.Checked.{given_of, paper}
use Rattle.settings.proofs.Laws.{refused_arm, key_width}
use Rattle.writing.proofs.JudgedLaws.{permitted, permits}
use Rattle.placing.proofs.ReadyLaws.{made_ready}
use Rattle.snapshot.proofs.SaveLaws.{saves_1, saves_2}
use Rattle.snapshot.proofs.saving.save.Goals as goal

pub returns-in_err-s : goal.returns-in_err-s
returns-in_err-s c =
    let p = err_from_is_err_and c.from_residual.result c.from_residual.ensures.1 in
    let refused = refused_arm (given_of c.args.given) _ c.new.ensures _ c.in_err-s.was in
    rw (p.1, p.2, refused.1) (saves_1 _ _ _ (given_of c.args.given) refused.0)

pub returns-then-not-work-work_length : goal.returns-then-not-work-work_length
returns-then-not-work-work_length c =
    let allowed = permitted (given_of c.args.given) c.new.ensures c.in_ok-s.was in
    saves_2 _ _ _ allowed c.work_length.ensures c.ledger_length.ensures c.if-not-work-work_length.true

pub make_table-requires : goal.make_table-requires
make_table-requires c =
    let allowed = permitted (given_of c.args.given) c.new.ensures c.in_ok-s.was in
    key_width (paper c.in_ok-s.s) (permits allowed) c.width.ensures

pub save_checked-requires : goal.save_checked-requires
save_checked-requires c =
    let allowed = permitted (given_of c.args.given) c.new.ensures c.in_ok-s.was in
    record {
      ready = made_ready c.in_ok-s.s (permits allowed) c.width.ensures c.make_table.ensures.length c.make_table.ensures.made;
      words = eqb-true _ _ (and_left (eqb (length c.args.work.now) c.work_length.result) _ c.if-not-work-work_length.false) ∙ c.work_length.ensures;
      whole = eqb-true _ _ (and_right (eqb (length c.args.work.now) c.work_length.result) _ c.if-not-work-work_length.false) ∙ c.ledger_length.ensures;
    }

pub returns : goal.returns
returns c =
    let allowed = permitted (given_of c.args.given) c.new.ensures c.in_ok-s.was in
    c.save_checked.ensures ∙ ap (λ (t : plain.Settings). save t c.args.ledger.now (length c.args.work.now) c.args.target.now) allowed.same
