-- the numbers so far stand at the start, and what was there before after them
use Rattle.snapshot.proofs.HeadLaws.{numbers_more, numbers_all}
use Rattle.snapshot.proofs.saving.write_numbers.Goals as goal

pub loop-i-preserved : goal.loop-i-preserved
loop-i-preserved c = numbers_more c.args.numbers.now c.args.to.now c.loop-i.i c.loop-i-test.true c.requires.full c.loop-i.invariant c.write_number.ensures

pub returns : goal.returns
returns c = numbers_all c.args.numbers.now c.args.to.now c.loop-i.i c.loop-i-test.false c.requires.full c.loop-i.invariant
