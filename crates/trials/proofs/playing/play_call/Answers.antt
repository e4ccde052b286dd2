-- `trials::playing::play_call` meets its contract: the call is made of the two numbers, the law `played_by`.
use Rattle.std.proofs.Common.{◌≡◌, ap, ◌∙◌, arith, length}
use Rattle.theory.specs.Records.{count_of}
use Rattle.theory.specs.Layout.{Areas}
use Rattle.theory.specs.BenchLoad.{draw, load_call}
use Rattle.settings.specs.Checked.{paper}
use Rattle.settings.proofs.Laws.{bounds}
use Rattle.bench_load.specs.Loads.{generator_of}
use Rattle.calls.specs.Data.{call_of}
use Rattle.calls.proofs.CallingLaws.{callable}
use Rattle.trials.proofs.PlayLaws.{played_by}
use Rattle.trials.proofs.playing.play_call.Goals as goal

pub call-reply-requires : goal.call-reply-requires
call-reply-requires c = let playing = c.requires.playing in callable playing.ready playing.words playing.sized _

pub count_at-need-requires : goal.count_at-need-requires
count_at-need-requires c =
    let playing = c.requires.playing in
    let side = ap (λ (z : Areas). length z.side_store) c.lookup.ensures in
    omega (arith, side, c.call-reply.ensures.same.side_long, playing.sized.side_store, (bounds (paper c.args.s) playing.ready.ok).side_least)

pub returns-clause-played : goal.returns-clause-played
returns-clause-played c =
    let is : call_of c.picked_call.result ≡ load_call c.args.flows (draw (generator_of c.args.generator.now)) =
    c.picked_call.ensures _ _ (c.write_key.ensures _) ∙ ap (load_call c.args.flows) c.next_two-first.ensures.numbers in
    played_by _ is c.call-reply.ensures.called
    (c.count_at-need.ensures.0 ∙ ap (λ (z : Areas). count_of z.side_store) c.lookup.ensures) c.count.ensures.counted c.count.ensures.grown
