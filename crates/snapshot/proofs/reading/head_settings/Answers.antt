-- each refusal is the definition's, else the settings that were read are handed back
use Rattle.std.proofs.Common.{ap, ◌∙◌}
use Rattle.std.proofs.lemmas.Result.{err_from_is_err_and}
use Rattle.memory.specs.Refusals.{number_of}
use Rattle.memory.specs.declared.refusals.Refusal.TheVariants.{SettingOutOfRange, WrongAreaLength, WrongFile}
use Rattle.theory.specs.Snapshot.{file_settings}
use Rattle.settings.proofs.Laws.{refused_arm}
use Rattle.writing.proofs.JudgedLaws.{permitted}
use Rattle.snapshot.proofs.FileLaws.{head_refused, head_12, head_1, head_2, head_12_first, head_accepted}
use Rattle.snapshot.proofs.reading.head_settings.Goals as goal

pub returns-in_err-head : goal.returns-in_err-head
returns-in_err-head c =
    let p = err_from_is_err_and c.from_residual.result c.from_residual.ensures.1 in
    let wrong = c.in_err-head.ensures.wrong in
    rw (p.1, p.2) (head_refused _ _ _ (ap number_of wrong.0 ∙ head_12 c.args.file.now c.args.area_length wrong.1))

pub returns-in_default : goal.returns-in_default
returns-in_default c =
    let refused = refused_arm (file_settings c.args.file.now) _ c.read_settings.ensures _ c.in_default.is in
    head_refused _ _ SettingOutOfRange (head_1 c.args.file.now c.args.area_length c.in_ok-head.ensures.read.right refused.0)

pub returns-then-area_length-ne-SETTINGS : goal.returns-then-area_length-ne-SETTINGS
returns-then-area_length-ne-SETTINGS c =
    let allowed = permitted (file_settings c.args.file.now) c.read_settings.ensures c.in-Ok.is in
    head_refused _ _ WrongAreaLength
    (head_2 c.args.file.now c.args.area_length c.in_ok-head.ensures.read.right allowed c.if-area_length-ne-SETTINGS.true)

pub returns-then-head-first_count : goal.returns-then-head-first_count
returns-then-head-first_count c =
    let allowed = permitted (file_settings c.args.file.now) c.read_settings.ensures c.in-Ok.is in
    let head = c.in_ok-head.ensures.read in
    head_refused _ _ WrongFile
    (head_12_first c.args.file.now c.args.area_length head.right allowed c.if-area_length-ne-SETTINGS.false head.settings c.first_count.ensures
    c.if-head-first_count.true)

pub returns : goal.returns
returns c =
    let allowed = permitted (file_settings c.args.file.now) c.read_settings.ensures c.in-Ok.is in
    let head = c.in_ok-head.ensures.read in
    head_accepted c.args.file.now c.args.area_length head.right allowed c.if-area_length-ne-SETTINGS.false head.settings c.first_count.ensures
    c.if-head-first_count.false c.from.ensures
