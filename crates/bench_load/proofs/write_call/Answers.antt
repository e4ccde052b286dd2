-- The letter in its place, then key and class lent one after the other.
use Rattle.std.proofs.Common.{◌≡◌, length, ap, ◌∙◌}
use Rattle.theory.specs.Settings.{ipv4_width}
use Rattle.theory.proofs.BenchLoadLaws.{length_load_key}
use Rattle.bench_load.proofs.LoadLaws.{call_back, call_written}
use Rattle.bench_load.proofs.write_call.Goals as goal

pub returns : goal.returns
returns c =
    let key : length c.write_key.new.to ≡ ipv4_width = ap length (c.write_key.ensures 0) ∙ length_load_key _ _ in
    call_back c.args.to.now c.letter.result c.requires.length c.write_key.new.to key c.write_class.new.to
    ∙ call_written c.args.flows c.args.first c.args.second c.letter.result c.write_key.new.to c.write_class.new.to c.class_of.result
    (c.letter.ensures c.args.flows c.args.second) (c.write_key.ensures c.args.first) c.write_class.ensures (c.class_of.ensures c.args.second)
