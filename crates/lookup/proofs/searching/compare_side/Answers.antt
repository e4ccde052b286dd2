-- `lookup::searching::compare_side` meets its contract: the part that is lent on is the side store after its count.
use Rattle.std.proofs.Common.{arith}
use Rattle.theory.specs.Lookup.{answer_at}
use Rattle.memory.proofs.SliceLaws.{tail_is}
use Rattle.lookup.proofs.PlaceLaws.{side_counted, side_scannable}
use Rattle.lookup.proofs.searching.compare_side.Goals as goal

pub slice_bounds-compare-count : goal.slice_bounds-compare-count
slice_bounds-compare-count c = omega (arith, side_counted c.requires)

pub slice_bounds-compare-start : goal.slice_bounds-compare-start
slice_bounds-compare-start c = omega (arith, side_counted c.requires)

pub compare-requires : goal.compare-requires
compare-requires c = rw (tail_is 2 c.args.side.now (side_counted c.requires)) (side_scannable c.requires)

pub returns : goal.returns
unfolding answer_at
returns c = rw (c.compare.ensures, c.requires.wide, tail_is 2 c.args.side.now (side_counted c.requires))
