-- `trials::Trials::tell_next` meets its contract: the line of what the trial tells, and the same load with the next number, the law `tells`.
use Rattle.std.proofs.Common.{◌+◌, [], refl, rules}
use Rattle.trials.specs.Telling.{Tells}
use Rattle.trials.proofs.TrialLineLaws.{tells}
use Rattle.trials.proofs.Trials.tell_next.Goals as goal

pub returns-clause-tells : goal.returns-clause-tells
returns-clause-tells c =
    let told = c.run_trial-trial.ensures in
    let shown = c.append_line.ensures.grows.appended c.args.to.now [] (refl, refl) in
    let before = c.args.self.now in
    let all : Tells before c.args.settings.now c.args.to.now c.append_line.new.text.bytes.now c.append_line.new.text.end
    (record { load = before.load; number = before.number + 1 }) = tells before _ c.args.settings.now told.answer told.numbers shown refl refl in
    search rules
