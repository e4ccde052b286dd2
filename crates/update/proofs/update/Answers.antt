-- 1, 2, then the call on areas of their lengths
use Rattle.std.proofs.Common.{◌≡◌, ℕ, Bool}
use Rattle.std.proofs.lemmas.Result.{err_from_is_err_and}
use Rattle.theory.specs.Lists.{all}
use Rattle.theory.specs.Settings as plain
use Rattle.theory.specs.Settings.{work_length}
use Rattle.theory.specs.Layout.{Areas}
use Rattle.theory.specs.Calls.{all_lengths}
use Rattle.settings.specs.declared.Settings.{Settings}
use Rattle.settings.specs.Checked.{given_of, paper, card}
use Rattle.settings.proofs.Laws.{refused_arm, key_width}
use Rattle.writing.proofs.JudgedLaws.{Permitted, permitted, permits, Tested, words_right, areas_right}
use Rattle.placing.proofs.ReadyLaws.{made_ready}
use Rattle.update.proofs.PerformLaws.{performs_1, performs_2, performs_on}
use Rattle.update.proofs.update.Goals as goal

-- the lengths are tested, on settings that are allowed
tested : {t : plain.Settings} {s : Settings} → Permitted t s → {w z : ℕ} {a : Areas} {right : Bool} → z ≡ work_length (card s)
    → right ≡ all (λ x. x) (all_lengths (card s) a) → Tested t s w z a right
tested allowed words areas = record { settings = allowed; words = words; areas = areas }

pub returns-in_err-s-clause-performed : goal.returns-in_err-s-clause-performed
returns-in_err-s-clause-performed c =
    let p = err_from_is_err_and c.from_residual.result c.from_residual.ensures.1 in
    let refused = refused_arm (given_of c.args.given) _ c.new.ensures _ c.in_err-s.was in
    rw (p.1, p.2, refused.1) (performs_1 c.args.edit c.args.key.now c.args.class (given_of c.args.given) _ _ refused.0)

pub returns-then-not-work-work_length-clause-performed : goal.returns-then-not-work-work_length-clause-performed
returns-then-not-work-work_length-clause-performed c =
    let allowed = permitted (given_of c.args.given) c.new.ensures c.in_ok-s.was in
    performs_2 c.args.edit c.args.key.now c.args.class (tested allowed c.work_length.ensures c.have_lengths.ensures) c.if-not-work-work_length.true

pub make_table-requires : goal.make_table-requires
make_table-requires c =
    let allowed = permitted (given_of c.args.given) c.new.ensures c.in_ok-s.was in
    key_width (paper c.in_ok-s.s) (permits allowed) c.width.ensures

pub update_checked-requires : goal.update_checked-requires
update_checked-requires c =
    let allowed = permitted (given_of c.args.given) c.new.ensures c.in_ok-s.was in
    let tested = tested allowed c.work_length.ensures c.have_lengths.ensures in
    record {
      ready = made_ready c.in_ok-s.s (permits allowed) c.width.ensures c.make_table.ensures.length c.make_table.ensures.made;
      words = words_right tested c.if-not-work-work_length.false;
      sized = areas_right tested c.if-not-work-work_length.false;
    }

pub returns-clause-performed : goal.returns-clause-performed
returns-clause-performed c =
    let allowed = permitted (given_of c.args.given) c.new.ensures c.in_ok-s.was in
    performs_on c.args.edit c.args.key.now c.args.class (tested allowed c.work_length.ensures c.have_lengths.ensures) c.if-not-work-work_length.false
    c.update_checked.ensures.updated
