-- `lookup::scanning::scan_all` meets its contract: the loop keeps the first of the places behind it that has the key.
use Rattle.std.proofs.Common.{◌≡◌, ap, sym, subst, ◌∙◌, ◌+◌, ◌-◌, ◌*◌, ℕ, suc, length, arith}
use Rattle.memory.proofs.SliceLaws.{length_part}
use Rattle.lookup.proofs.ScanLaws.{First, first_start, first_next, first_found, first_none, place_inside}
use Rattle.lookup.proofs.scanning.scan_all.Goals as goal

pub loop-i-init : goal.loop-i-init
loop-i-init c = first_start c.requires

pub key_at-requires : goal.key_at-requires
key_at-requires c = omega (arith, place_inside c.requires (c.loop-i.i - 1) (omega arith))

pub same_words-same-requires : goal.same_words-same-requires
same_words-same-requires c =
    let size = length c.args.key.now + 4 in
    record {
      same_length = sym (ap length c.key_at.ensures
          ∙ length_part ((c.loop-i.i - 1) * size) (length c.args.key.now) c.args.place.now
          (omega (arith, place_inside c.requires (c.loop-i.i - 1) (omega arith))));
      word = c.requires.long;
    }

pub loop-i-preserved : goal.loop-i-preserved
loop-i-preserved c =
    let up : c.loop-i.i ≡ suc (c.loop-i.i - 1) = omega arith in
    let from = subst (λ (x : ℕ). First c.args.key.now c.args.n c.args.place.now c.args.room x c.loop-i.first) up c.loop-i.invariant in
    rw c.pick-first.ensures (first_next (c.loop-i.i - 1) c.loop-i.first from c.same_words-same.result (rw c.key_at.ensures at c.same_words-same.ensures))

pub returns-then-first-n : goal.returns-then-first-n
returns-then-first-n c =
    let none : c.loop-i.i ≡ 0 = omega arith in first_found c.loop-i.first (rw none at c.loop-i.invariant) c.if-first-n.true

pub returns-else-first-n : goal.returns-else-first-n
returns-else-first-n c =
    let none : c.loop-i.i ≡ 0 = omega arith in first_none c.loop-i.first (rw none at c.loop-i.invariant) c.if-first-n.false
