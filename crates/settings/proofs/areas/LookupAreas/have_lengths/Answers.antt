use mathlib.Core.Bool.{and-true}
use Rattle.theory.specs.Calls.{lookup_lengths}
use Rattle.settings.proofs.areas.LookupAreas.have_lengths.Goals as goal

pub returns : goal.returns
unfolding lookup_lengths
returns c = rw (c.clipped_length.ensures, c.buckets_length.ensures, c.side_length.ensures, and-true)
