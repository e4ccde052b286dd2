-- Each arm is the number of the definition's case.
use Rattle.std.proofs.Common.{ap, ◌∙◌}
use Rattle.theory.specs.Lookup.{answer_at, driver_number}
use Rattle.lookup.proofs.PlaceLaws.{in_bucket, in_side}
use Rattle.lookup.proofs.numbers.place_number.Goals as goal

pub bucket_number-requires : goal.bucket_number-requires
bucket_number-requires c = in_bucket c.requires c.in-Bucket.is

pub compare_side-requires : goal.compare_side-requires
compare_side-requires c = in_side c.requires c.in-Side.is

pub returns-in-Invalid : goal.returns-in-Invalid
unfolding answer_at
returns-in-Invalid c = rw c.in-Invalid.is (c.driver_number.ensures ∙ ap driver_number c.refused.ensures)

pub returns-in-Nowhere : goal.returns-in-Nowhere
unfolding answer_at
returns-in-Nowhere c = rw c.in-Nowhere.is (c.driver_number-in-Nowhere.ensures ∙ ap driver_number c.bare.ensures)

pub returns-in-Bucket : goal.returns-in-Bucket
returns-in-Bucket c = rw c.in-Bucket.is c.bucket_number.ensures

pub returns-in-Side : goal.returns-in-Side
returns-in-Side c = rw c.in-Side.is (c.driver_number-in-Side.ensures ∙ ap driver_number c.compare_side.ensures)
