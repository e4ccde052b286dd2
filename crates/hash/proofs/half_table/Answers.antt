-- The constants are the table of the definitions.
use Rattle.std.proofs.Common.{◌*◌, List, ℕ, subst, sym}
use Rattle.theory.specs.Settings.{ipv6_width}
use Rattle.hash.specs.Digits.{TableRight}
use Rattle.hash.proofs.Constants.{half_table}
use Rattle.hash.proofs.DigitLaws.{table_entries_right}
use Rattle.hash.proofs.TableLaws.{half_table_is}
use Rattle.hash.proofs.half_table.Goals as goal

right : TableRight 4 (2 * ipv6_width) half_table
right = subst (λ (t : List ℕ). TableRight 4 (2 * ipv6_width) t) (sym half_table_is) (table_entries_right 4 (2 * ipv6_width))

pub returns : goal.returns
unfolding half_table
returns c = right
