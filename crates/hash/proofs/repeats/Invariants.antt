-- What is found so far, joined with the hashes that are left, is what all j hashes give.
use Rattle.std.proofs.Common.{◌≡◌, ◌||◌, ◌*◌, ◌/◌, ◌^◌}
use Rattle.theory.specs.Lists.{has}
use Rattle.theory.specs.Hash.{hashes}
use Rattle.hash.proofs.repeats.Given as goal

abbrev pub invariant-loop : goal.invariant-loop
invariant-loop l = record {
  rest_is : l.rest ≡ l.h / 2 ^ (16 * l.counter);
  so_far : (l.seen || has l.b (hashes l.m l.h l.counter l.j)) ≡ has l.b (hashes l.m l.h 0 l.j);
}
