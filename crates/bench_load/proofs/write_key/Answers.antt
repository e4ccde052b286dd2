-- Eight bytes at the front, zeros after them.
use Rattle.std.proofs.Common.{◌≡◌, length, replicate, ap, ◌∙◌}
use Rattle.theory.proofs.ByteLaws.{length_to_bytes}
use Rattle.bench_load.proofs.LoadLaws.{zeros_lent, key_back, key_written}
use Rattle.bench_load.proofs.write_key.Goals as goal

pub returns : goal.returns
returns c =
    let eight = c.write_eight.new.to in
    let long : length eight ≡ 8 = rw (c.write_eight.ensures, length_to_bytes) in
    let zeros = c.fill.ensures.after (λ y e. e) ∙ ap (λ n. replicate n 0) (zeros_lent c.args.to.now eight c.requires.width long) in
    λ first. key_back c.args.to.now eight c.requires.width long c.fill.new.self
    ∙ key_written c.args.flows first c.args.second eight c.fill.new.self c.write_eight.ensures zeros
