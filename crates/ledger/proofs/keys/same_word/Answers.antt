-- Eight bytes are the same where their numbers are.
use Rattle.std.proofs.Common.{◌∙◌, ap₂, nat_eq}
use Rattle.memory.proofs.SliceLaws.{bytes_of}
use Rattle.ledger.proofs.KeyCompareLaws.{same_by_word}
use Rattle.ledger.proofs.keys.same_word.Goals as goal

pub returns : goal.returns
returns c =
    let a = c.args.a.now in
    let b = c.args.b.now in
    ap₂ nat_eq c.low_word_at.ensures c.low_word_at-2.ensures
    ∙ same_by_word a b c.args.at (bytes_of a c.type_inv.a) (bytes_of b c.type_inv.b) c.requires.in_a c.requires.in_b
