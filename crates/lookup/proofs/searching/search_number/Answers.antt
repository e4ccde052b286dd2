-- `lookup::searching::search_number` meets its contract: the number of what the search gives.
use Rattle.std.proofs.Common.{◌∙◌}
use Rattle.settings.specs.Checked.{given_of}
use Rattle.lookup.proofs.JudgeLaws.{search_number}
use Rattle.lookup.proofs.searching.search_number.Goals as goal

pub returns : goal.returns
returns c = c.driver_number.ensures ∙ search_number (given_of c.args.given) _ _ _ _ _ c.search.ensures
