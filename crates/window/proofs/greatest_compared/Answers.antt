-- The number that is picked is the greatest of one more.
use Rattle.std.proofs.Common.{arith}
use Rattle.window.proofs.WindowAreaLaws.{greatest_more, met, greatest_told}
use Rattle.window.proofs.greatest_compared.Goals as goal

pub loop-compared-preserved : goal.loop-compared-preserved
loop-compared-preserved c = greatest_more (met c.args.words.now) c.loop-compared.compared c.loop-compared.invariant c.pick-greatest.ensures

pub returns : goal.returns
returns c = greatest_told _ c.loop-compared.compared (omega arith) c.loop-compared.invariant
