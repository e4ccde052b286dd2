-- `calls::perform` meets its contract: 1, 2, then the call, with the table of its width.
use Rattle.std.proofs.Common.{refl}
use Rattle.settings.specs.Checked.{paper}
use Rattle.settings.proofs.Laws.{key_width}
use Rattle.placing.proofs.ReadyLaws.{made_ready}
use Rattle.calls.proofs.CallingLaws.{refuses, allows}
use Rattle.calls.proofs.perform.Goals as goal

pub make_table-requires : goal.make_table-requires
make_table-requires c = key_width (paper c.in-Ok.s) (allows _ _ _ _ c.in-Ok.ensures _ refl).ok c.width.ensures

pub call-requires : goal.call-requires
call-requires c =
    let judged = allows _ _ _ _ c.in-Ok.ensures _ refl in
    record {
      ok = judged.ok;
      ready = λ _. made_ready _ judged.ok c.width.ensures c.make_table.ensures.length c.make_table.ensures.made;
      lengths = judged.lengths;
    }

pub returns-in-Ok-clause-performed : goal.returns-in-Ok-clause-performed
returns-in-Ok-clause-performed c = (allows _ _ _ _ c.in-Ok.ensures _ refl).on c.call.ensures.called

pub returns-in-Err-clause-performed : goal.returns-in-Err-clause-performed
returns-in-Err-clause-performed c = refuses _ _ _ _ c.in-Err.ensures _ refl c.refused.ensures
