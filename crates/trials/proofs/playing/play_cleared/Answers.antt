-- `trials::playing::play_cleared` meets its contract: the areas hold the layout of the empty list when the first call is made, the law `tried_by`.
use Rattle.settings.specs.Checked.{paper}
use Rattle.settings.proofs.Laws.{key_width}
use Rattle.placing.proofs.ReadyLaws.{made_ready}
use Rattle.trials.proofs.PlayLaws.{sized_kept, holds_empty, tried_by}
use Rattle.trials.proofs.playing.play_cleared.Goals as goal

pub make_table-requires : goal.make_table-requires
make_table-requires c = key_width (paper c.args.s) c.requires.parts.ok c.width.ensures

pub play-requires-clause-playing : goal.play-requires-clause-playing
play-requires-clause-playing c =
    let parts = c.requires.parts in
    record {
      ready = made_ready _ parts.ok c.width.ensures c.make_table.ensures.length c.make_table.ensures.made;
      words = parts.words;
      sized = sized_kept parts.sized c.clear_areas.ensures.same;
    }

pub returns-clause-numbers : goal.returns-clause-numbers
returns-clause-numbers c = tried_by c.requires.parts (c.clear_areas.ensures.cleared _ c.requires.parts.sized) _ _ _ c.play.ensures.played

pub returns-clause-held : goal.returns-clause-held
returns-clause-held c = c.play.ensures.held (holds_empty c.requires.parts (c.clear_areas.ensures.cleared _ c.requires.parts.sized))
