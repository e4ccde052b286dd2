-- `lookup::fetching::fetch` meets its contract: the part of a record's bytes at the place where the record lies.
use Rattle.std.proofs.Common.{refl, ap, arith}
use Rattle.std.specs.Prelude.{Option}
use native.Mathlib.Nat.{add-sub_cancel_left}
use Rattle.lookup.specs.declared.locating.Area.TheVariants as area
use Rattle.lookup.specs.declared.locating.RecordPlace.{RecordPlace}
use Rattle.lookup.specs.Locating.{place_of_record}
use Rattle.lookup.proofs.FetchLaws.{fetched_none, in_area, size_is, ends_inside, ends_early, fetched_there}
use Rattle.lookup.proofs.fetching.fetch.Goals as goal

pub returns-in_default : goal.returns-in_default
returns-in_default c =
    fetched_none c.locate-found.ensures (ap (λ (p : Option RecordPlace). (place_of_record p).area) c.in_default.is) refl

pub overflow_add-end-2 : goal.overflow_add-end-2
overflow_add-end-2 c =
    let here = in_area {buckets = c.args.buckets} {side = c.args.side} c.locate-found.ensures c.in-Some.place c.in-Some.is c.in-Some.place.area refl in
    omega (arith, ends_early here c.in-Some.place c.in-Some.is)

pub slice_bounds-result-end-in-Buckets : goal.slice_bounds-result-end-in-Buckets
slice_bounds-result-end-in-Buckets c =
    let here = in_area {buckets = c.args.buckets} {side = c.args.side} c.locate-found.ensures c.in-Some.place c.in-Some.is area.Buckets c.in-Buckets.is in
    omega (arith, ends_inside here c.in-Some.place c.in-Some.is)

pub slice_bounds-result-end-in-Side : goal.slice_bounds-result-end-in-Side
slice_bounds-result-end-in-Side c =
    let here = in_area {buckets = c.args.buckets} {side = c.args.side} c.locate-found.ensures c.in-Some.place c.in-Some.is area.Side c.in-Side.is in
    omega (arith, ends_inside here c.in-Some.place c.in-Some.is)

pub returns-in-Buckets : goal.returns-in-Buckets
returns-in-Buckets c =
    let here = in_area {buckets = c.args.buckets} {side = c.args.side} c.locate-found.ensures c.in-Some.place c.in-Some.is area.Buckets c.in-Buckets.is in
    fetched_there here (rw c.in-Some.is
    (record { inside = omega (arith, ends_inside here c.in-Some.place c.in-Some.is, size_is here); bytes = rw (add-sub_cancel_left, size_is here); there = refl }))

pub returns-in-Side : goal.returns-in-Side
returns-in-Side c =
    let here = in_area {buckets = c.args.buckets} {side = c.args.side} c.locate-found.ensures c.in-Some.place c.in-Some.is area.Side c.in-Side.is in
    fetched_there here (rw c.in-Some.is
    (record { inside = omega (arith, ends_inside here c.in-Some.place c.in-Some.is, size_is here); bytes = rw (add-sub_cancel_left, size_is here); there = refl }))
