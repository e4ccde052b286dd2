-- `lookup::judging::judge_burst` meets its contract: the table's length, then 3 by a division.
use Rattle.std.proofs.Common.{sym, ◌∙◌, arith}
use Rattle.std.proofs.lemmas.Result.{err_from_is_err_and}
use Rattle.theory.proofs.SettingsLaws.{width_from}
use Rattle.settings.specs.Checked.{given_of}
use Rattle.lookup.proofs.JudgeLaws.{refused_burst, ready_width, burst_table_wrong, keys_wrong, keys_right}
use Rattle.lookup.proofs.judging.judge_burst.Goals as goal

pub returns-in_err-s : goal.returns-in_err-s
returns-in_err-s c =
    let p = err_from_is_err_and c.from_residual.result c.from_residual.ensures.1 in
    rw (p.1, p.2) (refused_burst (given_of c.args.given) _ _ _ _ c.in_err-s.ensures c.args.table.now c.args.keys.now c.args.n)

pub table_length_right-table_right-requires : goal.table_length_right-table_right-requires
table_length_right-table_right-requires c = ready_width (given_of c.args.given) _ _ _ c.in_ok-s.s c.in_ok-s.ensures _ c.width-width.ensures

pub returns-then-not-table_right : goal.returns-then-not-table_right
returns-then-not-table_right c =
    burst_table_wrong (given_of c.args.given) _ _ _ c.in_ok-s.s c.in_ok-s.ensures c.args.table.now _ c.width-width.ensures
    (sym c.table_length_right-table_right.ensures ∙ c.if-not-table_right.true) c.args.keys.now c.args.n

pub nonzero_rem-whole_keys : goal.nonzero_rem-whole_keys
nonzero_rem-whole_keys c =
    omega (arith, width_from c.width-width.result (ready_width (given_of c.args.given) _ _ _ c.in_ok-s.s c.in_ok-s.ensures _ c.width-width.ensures))

pub nonzero_div-keys : goal.nonzero_div-keys
nonzero_div-keys c =
    omega (arith, width_from c.width-width.result (ready_width (given_of c.args.given) _ _ _ c.in_ok-s.s c.in_ok-s.ensures _ c.width-width.ensures))

pub returns-then-not-whole_keys-keys : goal.returns-then-not-whole_keys-keys
returns-then-not-whole_keys-keys c =
    keys_wrong (given_of c.args.given) _ _ _ c.in_ok-s.s c.in_ok-s.ensures c.args.table.now _ c.width-width.ensures
    (sym c.table_length_right-table_right.ensures ∙ c.if-not-table_right.false) c.args.keys.now c.args.n c.if-not-whole_keys-keys.true

pub returns : goal.returns
returns c =
    keys_right (given_of c.args.given) _ _ _ c.in_ok-s.s c.in_ok-s.ensures c.args.table.now _ c.width-width.ensures
    (sym c.table_length_right-table_right.ensures ∙ c.if-not-table_right.false) c.args.keys.now c.args.n c.if-not-whole_keys-keys.false
