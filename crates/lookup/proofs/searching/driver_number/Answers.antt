-- `lookup::searching::driver_number` meets its contract: what the code computes is the definition.
use Rattle.std.proofs.Common.{rules}
use Rattle.theory.specs.Lookup.{driver_number}
use Rattle.lookup.proofs.searching.driver_number.Goals as goal

pub returns : goal.returns
unfolding driver_number
returns c = search rules
