-- `lookup::searching::search_place` meets its contract: each arm is the definition's case.
use Rattle.theory.specs.Lookup.{answer_at}
use Rattle.lookup.proofs.PlaceLaws.{in_bucket, in_side}
use Rattle.lookup.proofs.searching.search_place.Goals as goal

pub compare_bucket-requires : goal.compare_bucket-requires
compare_bucket-requires c = in_bucket c.requires c.in-Bucket.is

pub compare_side-requires : goal.compare_side-requires
compare_side-requires c = in_side c.requires c.in-Side.is

pub returns-in-Invalid : goal.returns-in-Invalid
unfolding answer_at
returns-in-Invalid c = rw c.in-Invalid.is c.refused.ensures

pub returns-in-Nowhere : goal.returns-in-Nowhere
unfolding answer_at
returns-in-Nowhere c = rw c.in-Nowhere.is c.bare.ensures

pub returns-in-Bucket : goal.returns-in-Bucket
returns-in-Bucket c = rw c.in-Bucket.is c.compare_bucket.ensures

pub returns-in-Side : goal.returns-in-Side
returns-in-Side c = rw c.in-Side.is c.compare_side.ensures
