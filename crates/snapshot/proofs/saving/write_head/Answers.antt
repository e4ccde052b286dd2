-- the three parts of the head
use Rattle.std.proofs.Common.{arith, refl, sym, ◌≡◌, ◌++◌, List, ℕ}
use Rattle.theory.specs.Records.{to_bytes}
use Rattle.theory.proofs.SettingsLaws.{ranges}
use Rattle.theory.proofs.SnapshotLaws.{first_count_most}
use Rattle.settings.specs.Checked.{paper}
use Rattle.snapshot.proofs.HeadLaws.{numbers_long, numbers_small, numbers_fill, head_written}
use Rattle.snapshot.proofs.saving.write_head.Goals as goal

pub write_number-requires : goal.write_number-requires
write_number-requires c = let t = paper c.args.s in (omega arith, omega (arith, first_count_most t))

pub slice_bounds-settings-end : goal.slice_bounds-settings-end
slice_bounds-settings-end c = omega (arith, c.first_count-first.ensures, first_count_most (paper c.args.s))

pub slice_bounds-write_numbers-end-2 : goal.slice_bounds-write_numbers-end-2
slice_bounds-write_numbers-end-2 c =
    sym (numbers_long (paper c.args.s) c.args.count c.args.to.now _ refl c.first_count-first.ensures refl c.requires.long)

pub write_numbers-requires-clause-full : goal.write_numbers-requires-clause-full
write_numbers-requires-clause-full c =
    numbers_fill (paper c.args.s) c.args.count c.args.to.now _ refl c.first_count-first.ensures refl c.requires.long c.write_number.ensures

pub write_numbers-requires-clause-small : goal.write_numbers-requires-clause-small
write_numbers-requires-clause-small c =
    let r = ranges (paper c.args.s) c.requires.ok in
    numbers_small (paper c.args.s) c.args.count c.args.to.now _ refl c.first_count-first.ensures refl c.requires.long
    (omega arith, (omega arith, (omega arith, (omega arith, (omega arith, (omega arith, (omega arith, tt)))))))

-- a number that is n is written as n
written_as : (new rest : List ℕ) (v n : ℕ) → new ≡ to_bytes 2 v ++ rest → v ≡ n → new ≡ to_bytes 2 n ++ rest
written_as new rest v n e f = rw f at e

pub returns : goal.returns
returns c =
    head_written (paper c.args.s) c.args.count c.args.to.now _ refl c.first_count-first.ensures refl c.requires.long c.write_number.ensures
    c.write_numbers.ensures refl refl (written_as _ _ _ _ c.write_number-2.ensures (omega arith))
