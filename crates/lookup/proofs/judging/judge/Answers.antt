-- `lookup::judging::judge` meets its contract: 3 after 1 and 2.
use Rattle.std.proofs.lemmas.Result.{err_from_is_err_and}
use Rattle.settings.specs.Checked.{given_of}
use Rattle.lookup.proofs.JudgeLaws.{refused_alone, key_length_wrong, key_length_right}
use Rattle.lookup.proofs.judging.judge.Goals as goal

pub returns-in_err-s : goal.returns-in_err-s
returns-in_err-s c =
    let p = err_from_is_err_and c.from_residual.result c.from_residual.ensures.1 in
    rw (p.1, p.2) (refused_alone (given_of c.args.given) _ _ _ _ c.in_err-s.ensures c.args.key.now)

pub returns-then-key-width : goal.returns-then-key-width
returns-then-key-width c =
    key_length_wrong (given_of c.args.given) _ _ _ c.in_ok-s.s c.in_ok-s.ensures c.args.key.now _ c.width.ensures c.if-key-width.true

pub returns : goal.returns
returns c = key_length_right (given_of c.args.given) _ _ _ c.in_ok-s.s c.in_ok-s.ensures c.args.key.now _ c.width.ensures c.if-key-width.false
