-- The constants are the first rows.
use Rattle.hash.proofs.Constants.{rows}
use Rattle.hash.proofs.RowLaws.{rows_are}
use Rattle.hash.proofs.by_rows.rows.Goals as goal

pub returns : goal.returns
unfolding rows
returns c = rows_are
