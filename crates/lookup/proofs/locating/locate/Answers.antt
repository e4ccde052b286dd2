-- `lookup::locating::locate` meets its contract: the refusals are judged first, then the place is that of the areas by the key's own H.
use Rattle.std.proofs.Common.{sym}
use Rattle.settings.specs.Checked.{paper, given_of}
use Rattle.settings.proofs.Laws.{key_width}
use Rattle.lookup.proofs.JudgeLaws.{unrefused}
use Rattle.lookup.proofs.LocateLaws.{call_nowhere, call_located}
use Rattle.lookup.proofs.locating.locate.Goals as goal

pub h_rows-requires : goal.h_rows-requires
h_rows-requires c =
    let right = unrefused (given_of c.args.given) _ _ _ _ c.in-Ok.s (sym c.in-Ok.ensures) in key_width (paper c.in-Ok.s) right.checked.ok right.wide

pub locate_at-requires-clause-checked : goal.locate_at-requires-clause-checked
locate_at-requires-clause-checked c = (unrefused (given_of c.args.given) _ _ _ _ c.in-Ok.s (sym c.in-Ok.ensures)).checked

pub locate_at-requires-clause-wide : goal.locate_at-requires-clause-wide
locate_at-requires-clause-wide c = (unrefused (given_of c.args.given) _ _ _ _ c.in-Ok.s (sym c.in-Ok.ensures)).wide

pub returns-in-Err : goal.returns-in-Err
returns-in-Err c = call_nowhere (given_of c.args.given) _ _ _ _ c.in-Err.refusal (sym c.in-Err.ensures) c.refused.ensures

pub returns-in-Ok : goal.returns-in-Ok
returns-in-Ok c =
    let right = unrefused (given_of c.args.given) _ _ _ _ c.in-Ok.s (sym c.in-Ok.ensures) in call_located right _ c.h_rows.ensures c.locate_at.ensures
