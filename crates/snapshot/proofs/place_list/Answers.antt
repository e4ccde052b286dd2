-- the two parts after the list are empty
use Rattle.std.proofs.Common.{arith, ◌∙◌}
use lib.Seq.{length-take-le}
use Rattle.settings.specs.Checked.{paper, card}
use Rattle.settings.proofs.Laws.{work_length_is}
use Rattle.snapshot.proofs.FullPartLaws.{held_none, held_full, alone}
use Rattle.snapshot.proofs.place_list.Goals as goal

pub placement_of-requires : goal.placement_of-requires
placement_of-requires c =
    let w = (card c.args.s).width in
    let n = held_full w c.args.count c.args.list.now c.requires.full in
    record {
      ready = c.requires.ready;
      halves = omega (arith, c.requires.words, work_length_is (paper c.args.s));
      few = omega (arith, n, held_none w, c.requires.few);
      places = length-take-le c.args.count c.args.kept.now c.requires.choices ∙ omega (arith, n, held_none w);
    }

pub returns : goal.returns
returns c = rw (alone (card c.args.s).width c.args.count c.args.list.now c.requires.full) at c.placement_of.ensures
