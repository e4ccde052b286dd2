-- the count, the records, zeros
use Rattle.std.proofs.Common.{arith}
use Rattle.theory.proofs.SettingsLaws.{sound}
use Rattle.settings.specs.Checked.{paper}
use Rattle.memory.proofs.SliceLaws.{bytes_of}
use Rattle.snapshot.proofs.LoadLaws.{end_within, copy_end, zeros_start, ledger_written}
use Rattle.snapshot.proofs.loading.write_ledger.Goals as goal

pub write_number-requires : goal.write_number-requires
write_number-requires c =
    (omega (arith, end_within c.requires), omega (arith, c.requires.few, (sound (paper c.args.s) c.requires.ok).capacity_small))

pub slice_bounds-copy-end : goal.slice_bounds-copy-end
slice_bounds-copy-end c = copy_end c.requires c.write_number.ensures

pub slice_bounds-fill-count : goal.slice_bounds-fill-count
slice_bounds-fill-count c = zeros_start c.requires c.write_number.ensures c.copy.ensures

pub slice_bounds-fill-start : goal.slice_bounds-fill-start
slice_bounds-fill-start c = zeros_start c.requires c.write_number.ensures c.copy.ensures

pub returns : goal.returns
returns c =
    ledger_written c.requires c.write_number.ensures c.copy.ensures (bytes_of c.args.list.now c.type_inv.list)
    (c.fill.ensures.after (λ y same. same))
