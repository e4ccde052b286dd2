-- Of the first j hashes the new ones are in the first `count` places, and zeros after them.
use Rattle.std.proofs.Common.{◌≡◌, [], map, ◌-◌, ◌^◌, ◌≤◌, length, take, drop, replicate}
use Rattle.theory.specs.Lists.{fresh, upto}
use Rattle.theory.specs.Hash.{hash}
use Rattle.hash.proofs.numbers_of.Given as goal

abbrev pub invariant-loop-j : goal.invariant-loop-j
invariant-loop-j l = record {
  few : l.count ≤ l.j;
  long : length l.at ≡ 4;
  is : take l.count l.at ≡ fresh [] (map (λ i. hash (2 ^ l.p) l.h i) (upto 0 l.j));
  rest_zero : drop l.count l.at ≡ replicate (4 - l.count) 0;
}
