-- `lookup::counters::counter` meets its contract: the half of its byte.
use Rattle.theory.specs.Lookup.{counter}
use Rattle.lookup.proofs.counters.counter.Goals as goal

pub returns : goal.returns
unfolding counter
returns c = c.of_byte.ensures
