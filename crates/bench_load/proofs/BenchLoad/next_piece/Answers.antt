-- The calls that fit are written, and the generator after them gives the rest.
use Rattle.bench_load.proofs.LoadLaws.{cut_by}
use Rattle.bench_load.proofs.BenchLoad.next_piece.Goals as goal

pub returns : goal.returns
returns c =
    cut_by c.args.self.now c.args.to.now c.calls_held-calls.result c.fill.new.to c.fill.new.generator c.calls_held-calls.ensures c.fill.ensures.calls
    c.fill.ensures.after
