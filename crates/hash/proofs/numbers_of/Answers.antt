-- A hash that is not among the numbers is one more, the law `numbers_more`.
use Rattle.std.proofs.Common.{◌≡◌, true, false, ℕ, ◌^◌, length, take, sym, ap, ◌∙◌, arith}
use lib.ListN.{length-set}
use Rattle.theory.specs.Lists.{has}
use Rattle.theory.specs.Hash.{hash, numbers_of}
use Rattle.hash.proofs.NumberingLaws.{has_by_any, numbers_same, numbers_more, rest_more}
use Rattle.hash.proofs.numbers_of.Goals as goal
use Rattle.hash.proofs.numbers_of.Goals.{then-not-contains, else-not-contains}

pub loop-j-preserved : goal.loop-j-preserved
loop-j-preserved c =
    let l = c.loop-j in
    let f : ℕ → ℕ = λ i. hash (2 ^ c.args.p) c.args.h i in
    let x = c.hash_at-x.result in
    let is_held : c.contains.result ≡ has x (take l.count l.at) = c.contains.ensures.value ∙ has_by_any x (take l.count l.at) in
    elim c.if-not-contains.branch [
      | then-not-contains w ↦
          let new : has x (take l.count l.at) ≡ false = sym is_held ∙ w.if-not-contains.true in record {
            few = omega arith;
            long = ap length w.at-is ∙ simp length-set l.invariant.long;
            is = rw (w.at-is, w.count-is) (numbers_more f l.at l.count l.j x l.invariant.is c.hash_at-x.ensures new (omega arith));
            rest_zero = rw (w.at-is, w.count-is) (rest_more 4 l.count x l.at (omega arith) l.invariant.rest_zero);
          }
      | else-not-contains w ↦
          let seen : has x (take l.count l.at) ≡ true = sym is_held ∙ w.if-not-contains.false in record {
            few = omega arith;
            long = ap length w.at-is ∙ l.invariant.long;
            is = rw (w.at-is, w.count-is) (numbers_same f l.at l.count l.j x l.invariant.is c.hash_at-x.ensures seen);
            rest_zero = rw (w.at-is, w.count-is) l.invariant.rest_zero;
          }
    ]

pub returns : goal.returns
unfolding numbers_of
returns c =
    let l = c.loop-j in
    let all : l.j ≡ c.args.k = omega arith in
    record { is = l.invariant.is ∙ rw all; few = omega arith; long = l.invariant.long; rest_zero = l.invariant.rest_zero }
