-- A turn takes one word more; at the end the words reach the last one.
use Rattle.std.proofs.Common.{◌≡◌, ◌+◌, ◌*◌, ◌∙◌, arith}
use Rattle.ledger.proofs.KeyCompareLaws.{same_word_more, same_all}
use Rattle.ledger.proofs.keys.same_words.Goals as goal

pub loop-i-preserved : goal.loop-i-preserved
loop-i-preserved c =
    let next : 8 * (c.loop-i.i + 1) ≡ 8 * c.loop-i.i + 8 = omega arith in
    rw (next, c.same_word-same-in-loop-i.ensures, c.loop-i.invariant)
    (same_word_more c.args.a.now c.args.b.now c.requires.same_length (8 * c.loop-i.i) _ (omega arith))

pub returns : goal.returns
returns c =
    c.loop-i.invariant ∙ same_all c.args.a.now c.args.b.now c.requires.same_length _ (8 * c.loop-i.i) (omega arith) (omega arith)
