use Rattle.theory.specs.Settings.{clipped_length}
use Rattle.settings.proofs.Settings.clipped_length.Goals as goal

pub returns : goal.returns
unfolding clipped_length
returns c = rw c.buckets.ensures
