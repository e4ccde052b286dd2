-- Each answer is that of `keyed` at its outcome.
use Rattle.std.proofs.Common.{◌∙◌}
use Rattle.std.proofs.lemmas.Result.{err_from_is_err_and}
use Rattle.packet.proofs.JudgingLaws.{unrefused, keyed_refused, keyed_0}
use Rattle.packet.proofs.read_packet_key.Goals as goal

pub returns-in_err-judge : goal.returns-in_err-judge
returns-in_err-judge g c =
    let v = g.V.Version in
    let q = c.args.packet.now in
    let p = err_from_is_err_and c.from_residual.result c.from_residual.ensures.1 in
    rw (p.1, p.2, g.met.V.Version.read_is)
    (keyed_refused v.WIDTH v.WRONG_HEADER (v.said q) q _ (c.if-buffer-WIDTH.false ∙ c.WIDTH.ensures) _ c.in_err-judge.ensures)

pub write_key-requires-clause-right : goal.write_key-requires-clause-right
write_key-requires-clause-right g c =
    let v = g.V.Version in
    let q = c.args.packet.now in
    (unrefused v.WIDTH v.WRONG_HEADER (v.said q) q c.in_ok-judge.ensures).0

pub write_key-requires-clause-ports : goal.write_key-requires-clause-ports
write_key-requires-clause-ports g c =
    let v = g.V.Version in
    let q = c.args.packet.now in
    (unrefused v.WIDTH v.WRONG_HEADER (v.said q) q c.in_ok-judge.ensures).1

pub returns : goal.returns
returns g c =
    let v = g.V.Version in
    let q = c.args.packet.now in
    rw (c.write_key.ensures, g.met.V.Version.read_is)
    (keyed_0 v.WIDTH v.WRONG_HEADER (v.said q) q _ (c.if-buffer-WIDTH.false ∙ c.WIDTH.ensures) c.in_ok-judge.ensures)
