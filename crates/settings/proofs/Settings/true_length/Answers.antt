use Rattle.theory.specs.Settings.{true_length}
use Rattle.settings.proofs.Settings.true_length.Goals as goal

pub returns : goal.returns
unfolding true_length
returns c = rw c.buckets.ensures
