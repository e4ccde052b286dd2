-- `lookup::searching::search` meets its contract: the refusals are judged first, then the answer is that of the areas by the key's own H.
use Rattle.std.proofs.Common.{sym}
use Rattle.settings.specs.Checked.{paper, given_of}
use Rattle.settings.proofs.Laws.{key_width}
use Rattle.lookup.proofs.JudgeLaws.{unrefused, search_refused, search_answered}
use Rattle.lookup.proofs.searching.search.Goals as goal

pub h_rows-requires : goal.h_rows-requires
h_rows-requires c =
    let right = unrefused (given_of c.args.given) _ _ _ _ c.in-Ok.s (sym c.in-Ok.ensures) in key_width (paper c.in-Ok.s) right.checked.ok right.wide

pub search_at-requires-clause-checked : goal.search_at-requires-clause-checked
search_at-requires-clause-checked c = (unrefused (given_of c.args.given) _ _ _ _ c.in-Ok.s (sym c.in-Ok.ensures)).checked

pub search_at-requires-clause-wide : goal.search_at-requires-clause-wide
search_at-requires-clause-wide c = (unrefused (given_of c.args.given) _ _ _ _ c.in-Ok.s (sym c.in-Ok.ensures)).wide

pub returns-in-Err : goal.returns-in-Err
returns-in-Err c = search_refused (given_of c.args.given) _ _ _ _ c.in-Err.refusal (sym c.in-Err.ensures) _ c.refused.ensures

pub returns-in-Ok : goal.returns-in-Ok
returns-in-Ok c =
    let right = unrefused (given_of c.args.given) _ _ _ _ c.in-Ok.s (sym c.in-Ok.ensures) in
    search_answered right _ c.h_rows.ensures _ c.search_at.ensures
