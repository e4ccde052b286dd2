-- `lookup::judging::judge_with_table` meets its contract: the table's length, then 3.
use Rattle.std.proofs.Common.{sym, ◌∙◌}
use Rattle.std.proofs.lemmas.Result.{err_from_is_err_and}
use Rattle.settings.specs.Checked.{given_of}
use Rattle.lookup.proofs.JudgeLaws.{refused_lent, ready_width, table_wrong, table_fits, key_length_wrong, key_length_right}
use Rattle.lookup.proofs.judging.judge_with_table.Goals as goal

pub returns-in_err-s : goal.returns-in_err-s
returns-in_err-s c =
    let p = err_from_is_err_and c.from_residual.result c.from_residual.ensures.1 in
    rw (p.1, p.2) (refused_lent (given_of c.args.given) _ _ _ _ c.in_err-s.ensures c.args.table.now c.args.key.now)

pub table_length_right-requires : goal.table_length_right-requires
table_length_right-requires c = ready_width (given_of c.args.given) _ _ _ c.in_ok-s.s c.in_ok-s.ensures _ c.width-width.ensures

pub returns-then-not-table_length_right : goal.returns-then-not-table_length_right
returns-then-not-table_length_right c =
    table_wrong (given_of c.args.given) _ _ _ c.in_ok-s.s c.in_ok-s.ensures c.args.table.now _ c.width-width.ensures
    (sym c.table_length_right.ensures ∙ c.if-not-table_length_right.true) c.args.key.now

pub returns-then-key-width : goal.returns-then-key-width
returns-then-key-width c =
    key_length_wrong (given_of c.args.given) _ _ _ c.in_ok-s.s c.in_ok-s.ensures c.args.key.now _ c.width-width.ensures c.if-key-width.true
    ∙ table_fits (given_of c.args.given) _ _ _ c.in_ok-s.s c.in_ok-s.ensures c.args.table.now _ c.width-width.ensures
    (sym c.table_length_right.ensures ∙ c.if-not-table_length_right.false) c.args.key.now

pub returns : goal.returns
returns c =
    key_length_right (given_of c.args.given) _ _ _ c.in_ok-s.s c.in_ok-s.ensures c.args.key.now _ c.width-width.ensures c.if-key-width.false
    ∙ table_fits (given_of c.args.given) _ _ _ c.in_ok-s.s c.in_ok-s.ensures c.args.table.now _ c.width-width.ensures
    (sym c.table_length_right.ensures ∙ c.if-not-table_length_right.false) c.args.key.now
