-- The table is right for the key's length.
use Rattle.placing.proofs.ReadyLaws.{right_for, long_for}
use Rattle.placing.proofs.h_of.Goals as goal

pub h_with_table-requires : goal.h_with_table-requires
h_with_table-requires c = long_for _ _ c.requires.ready c.args.key.now c.requires.wide

pub returns : goal.returns
returns c = c.h_with_table.ensures.right (right_for _ _ c.requires.ready c.args.key.now c.requires.wide)
