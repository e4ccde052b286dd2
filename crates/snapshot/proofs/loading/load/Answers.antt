-- 12, 1, 2, then the call
use Rattle.std.proofs.Common.{◌≡◌, ℕ, Bool}
use Rattle.std.proofs.lemmas.Result.{err_from_is_err_and}
use Rattle.theory.specs.Lists.{all}
use Rattle.theory.specs.Settings as plain
use Rattle.theory.specs.Settings.{work_length}
use Rattle.theory.specs.Layout.{Areas}
use Rattle.theory.specs.Calls.{all_lengths}
use Rattle.theory.specs.Snapshot.{file_settings}
use Rattle.settings.specs.declared.Settings.{Settings}
use Rattle.settings.specs.Checked.{paper, card}
use Rattle.settings.proofs.Laws.{refused_arm, key_width}
use Rattle.writing.proofs.JudgedLaws.{Permitted, permitted, permits, Tested, words_right, areas_right}
use Rattle.placing.proofs.ReadyLaws.{made_ready}
use Rattle.snapshot.proofs.LoadLaws.{loads_12, loads_1, loads_2}
use Rattle.snapshot.proofs.loading.load.Goals as goal

-- the lengths are tested, on settings that are allowed
tested : {t : plain.Settings} {s : Settings} → Permitted t s → {w z : ℕ} {a : Areas} {right : Bool} → z ≡ work_length (card s)
    → right ≡ all (λ x. x) (all_lengths (card s) a) → Tested t s w z a right
tested allowed words areas = record { settings = allowed; words = words; areas = areas }

pub returns-in_err-head-clause-loaded : goal.returns-in_err-head-clause-loaded
returns-in_err-head-clause-loaded c =
    let p = err_from_is_err_and c.from_residual.result c.from_residual.ensures.1 in
    let wrong = c.in_err-head.ensures.wrong in
    rw (p.1, p.2, wrong.0) (loads_12 _ _ _ wrong.1)

pub returns-in_err-s-clause-loaded : goal.returns-in_err-s-clause-loaded
returns-in_err-s-clause-loaded c =
    let p = err_from_is_err_and c.from_residual-in_err-s.result c.from_residual-in_err-s.ensures.1 in
    let refused = refused_arm (file_settings c.args.file.now) _ c.read_settings.ensures _ c.in_err-s.was in
    rw (p.1, p.2, refused.1) (loads_1 _ _ _ c.in_ok-head.ensures.read.right refused.0)

pub returns-then-not-work-work_length-clause-loaded : goal.returns-then-not-work-work_length-clause-loaded
returns-then-not-work-work_length-clause-loaded c =
    let allowed = permitted (file_settings c.args.file.now) c.read_settings.ensures c.in_ok-s.was in
    loads_2 c.args.file.now c.in_ok-head.ensures.read.right
    (tested allowed c.work_length.ensures c.have_lengths.ensures) c.if-not-work-work_length.true

pub make_table-requires : goal.make_table-requires
make_table-requires c =
    let allowed = permitted (file_settings c.args.file.now) c.read_settings.ensures c.in_ok-s.was in
    key_width (paper c.in_ok-s.s) (permits allowed) c.width.ensures

pub load_checked-requires : goal.load_checked-requires
load_checked-requires c =
    let allowed = permitted (file_settings c.args.file.now) c.read_settings.ensures c.in_ok-s.was in
    let tested = tested allowed c.work_length.ensures c.have_lengths.ensures in
    record {
      ready = made_ready c.in_ok-s.s (permits allowed) c.width.ensures c.make_table.ensures.length c.make_table.ensures.made;
      head = c.in_ok-head.ensures.read;
      same = allowed.same;
      words = words_right tested c.if-not-work-work_length.false;
      sized = areas_right tested c.if-not-work-work_length.false;
    }
