-- `trials::playing::play` meets its contract: before each turn, what is played of the calls left is what is played of all; a turn keeps that the areas hold a
-- list, the law `holds_next`.
use Rattle.std.proofs.Common.{◌-◌, ◌≤◌, ◌≡◌, refl, ap, arith, rules}
use Rattle.theory.specs.Layout.{Areas}
use Rattle.theory.specs.Ledger.{Step}
use Rattle.theory.specs.Calls.{call}
use Rattle.theory.specs.BenchLoad.{draw, load_call}
use Rattle.theory.specs.Trials.{no_numbers}
use Rattle.settings.specs.Checked.{card}
use Rattle.settings.specs.Areas.{contents}
use Rattle.bench_load.specs.Loads.{generator_of}
use Rattle.trials.specs.Data.{numbers_of}
use Rattle.trials.proofs.PlayLaws.{sized_kept, holds_next, going_more, going_all}
use Rattle.trials.proofs.playing.play.Goals as goal

pub loop-call-preserved : goal.loop-call-preserved
loop-call-preserved c =
    let so_far = c.loop-call.invariant in
    let ran = c.play_call.ensures in
    let called = call (card c.args.s) (load_call c.args.load.flows (draw (generator_of c.loop-call.generator))) (contents c.loop-call.areas) in
    let made : ◌≡◌ {A = Step Areas} (record { reply = called.reply; state = contents c.play_call.new.areas }) called =
    ap (λ (x : Areas). record { reply = called.reply; state = x }) ran.played.areas in
    record {
      going = going_more so_far.going (omega arith) ran.after (search rules) (sized_kept so_far.going.playing.sized ran.same) ran.played;
      held = λ before. holds_next _ _ so_far.going.playing (so_far.held before) refl made;
      slices = search rules;
    }

pub returns-clause-played : goal.returns-clause-played
returns-clause-played c =
    let ended : c.args.load.count - c.loop-call._call ≤ 0 = omega arith in
    let none : numbers_of c.default-numbers.result ≡ no_numbers = cc in
    rw (← none) (going_all c.loop-call.invariant.going ended)

pub returns-clause-held : goal.returns-clause-held
returns-clause-held c = c.loop-call.invariant.held
