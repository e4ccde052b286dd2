-- What is played of the calls left is what is played of all; and where the areas held a list at the start, they hold one at each turn.
use Rattle.std.proofs.Common.{◌-◌}
use Rattle.settings.specs.Checked.{card}
use Rattle.settings.specs.Areas.{contents, SameSlices}
use Rattle.bench_load.specs.Loads.{generator_of}
use Rattle.trials.specs.Data.{numbers_of}
use Rattle.trials.specs.Playing.{Holds}
use Rattle.trials.proofs.PlayLaws.{Going}
use Rattle.trials.proofs.playing.play.Given as goal

abbrev pub invariant-loop-call : goal.invariant-loop-call
invariant-loop-call l =
    record {
      going : Going l.s l.table l.flows (generator_of l.initial.generator) l._call-end (contents l.initial.areas)
          (numbers_of l.initial.numbers) l.work (contents l.areas) (generator_of l.generator) (l._call-end - l._call) (numbers_of l.numbers);
      held : Holds (card l.s) (contents l.initial.areas) → Holds (card l.s) (contents l.areas);
      slices : SameSlices l.initial.areas l.areas;
    }
