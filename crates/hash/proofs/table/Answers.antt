-- The constants are the table of the definitions.
use Rattle.std.proofs.Common.{List, ℕ, subst, sym}
use Rattle.theory.specs.Settings.{ipv4_width}
use Rattle.hash.specs.Digits.{TableRight}
use Rattle.hash.proofs.Constants.{table}
use Rattle.hash.proofs.DigitLaws.{table_entries_right}
use Rattle.hash.proofs.TableLaws.{table_is}
use Rattle.hash.proofs.table.Goals as goal

right : TableRight 8 ipv4_width table
right = subst (λ (t : List ℕ). TableRight 8 ipv4_width t) (sym table_is) (table_entries_right 8 ipv4_width)

pub returns : goal.returns
unfolding table
returns c = right
