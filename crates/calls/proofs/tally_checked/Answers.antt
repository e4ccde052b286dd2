-- `calls::tally_checked` meets its contract: the true counts, which tally is not lent, are not read.
use Rattle.theory.specs.Calls.{lookup_invalid, tally_areas}
use Rattle.calls.proofs.tally_checked.Goals as goal

pub returns : goal.returns
unfolding tally_areas lookup_invalid
returns c = c.tally_checked.ensures
