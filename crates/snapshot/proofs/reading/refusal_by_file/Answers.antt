-- each refusal is the definition's
use Rattle.std.proofs.Common.{◌≡◌, ◌+◌, ◌*◌, ◌≤◌, ℕ, List, length, arith, ◌∙◌}
use Rattle.theory.specs.Settings as plain
use Rattle.theory.specs.Settings.{card_of, record_size}
use Rattle.theory.specs.Snapshot.{first_count}
use Rattle.settings.specs.Checked.{paper}
use Rattle.snapshot.specs.declared.reading.Head.{Head}
use Rattle.snapshot.specs.Files.{HeadOf}
use Rattle.snapshot.proofs.FileLaws.{few_bytes, file_8, file_12_first, file_12, FullFile, lent_fits, file_13_0}
use Rattle.snapshot.proofs.reading.refusal_by_file.Goals as goal

-- a file that has the length of its head and its records
full : {t : plain.Settings} {f : List ℕ} {h : Head} {k size : ℕ} → HeadOf f h → h.count ≤ t.capacity → h.settings ≡ k → k ≡ first_count t
    → size ≡ record_size (card_of t) → length f ≡ h.size + size * h.count → FullFile t f h size
full head few first known sized long = record { head = head; few = few; first = first ∙ known; sized = sized; long = long }

pub returns-then-s-count : goal.returns-then-s-count
returns-then-s-count c = file_8 (paper c.args.s) c.requires.head c.if-s-count.true

pub returns-then-settings-first_count : goal.returns-then-settings-first_count
returns-then-settings-first_count c =
    file_12_first (paper c.args.s) c.requires.head c.if-s-count.false c.first_count.ensures c.if-settings-first_count.true

pub overflow_mul-record_size : goal.overflow_mul-record_size
overflow_mul-record_size c =
    omega (arith, few_bytes (paper c.args.s) c.requires.permitted _ _ c.record_size.ensures c.if-s-count.false)

pub overflow_add-size : goal.overflow_add-size
overflow_add-size c =
    omega (arith, few_bytes (paper c.args.s) c.requires.permitted _ _ c.record_size.ensures c.if-s-count.false)

pub returns-then-file-size : goal.returns-then-file-size
returns-then-file-size c =
    file_12 (paper c.args.s) c.requires.head c.if-s-count.false c.record_size.ensures c.if-file-size.true

pub keys_rise-requires : goal.keys_rise-requires
keys_rise-requires c =
    let full =
    full {t = paper c.args.s} c.requires.head c.if-s-count.false c.if-settings-first_count.false c.first_count.ensures c.record_size.ensures
    c.if-file-size.false
    in rw c.width.ensures (lent_fits full)

pub returns-then-not-keys_rise : goal.returns-then-not-keys_rise
returns-then-not-keys_rise c =
    let full =
    full {t = paper c.args.s} c.requires.head c.if-s-count.false c.if-settings-first_count.false c.first_count.ensures c.record_size.ensures
    c.if-file-size.false
    in file_13_0 full c.width.ensures c.if-not-keys_rise.ensures

pub returns : goal.returns
returns c =
    let full =
    full {t = paper c.args.s} c.requires.head c.if-s-count.false c.if-settings-first_count.false c.first_count.ensures c.record_size.ensures
    c.if-file-size.false
    in file_13_0 full c.width.ensures c.if-not-keys_rise.ensures
