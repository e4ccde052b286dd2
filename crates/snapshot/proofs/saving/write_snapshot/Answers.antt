-- the head, then the bytes of the records
use Rattle.std.proofs.Common.{arith, ◌∙◌}
use lib.Seq.{length-take-le}
use Rattle.theory.proofs.SettingsLaws.{sound}
use Rattle.settings.specs.Checked.{paper}
use Rattle.memory.proofs.SliceLaws.{bytes_of}
use Rattle.snapshot.proofs.SaveLaws.{head_within, snapshot_written}
use Rattle.snapshot.proofs.saving.write_snapshot.Goals as goal

pub write_head-requires : goal.write_head-requires
write_head-requires c =
    let t = paper c.args.s in
    let within = head_within t c.args.count c.args.list.now c.args.target.now c.requires.full c.requires.long c.saved_head_size-head.ensures in
    record {
      ok = c.requires.ok;
      long = length-take-le _ c.args.target.now within ∙ c.saved_head_size-head.ensures;
      small = omega (arith, c.requires.few, (sound t c.requires.ok).capacity_small);
    }

pub returns : goal.returns
returns c =
    snapshot_written (paper c.args.s) c.args.count c.args.list.now c.args.target.now c.requires.full c.requires.long c.saved_head_size-head.ensures
    c.write_head.ensures (bytes_of c.args.list.now c.type_inv.list) c.copy.ensures
