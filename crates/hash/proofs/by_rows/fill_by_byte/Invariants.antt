-- The first i entries are those of the table.
use Rattle.memory.proofs.CopyLaws.{Copied}
use Rattle.hash.specs.Digits.{table_entries}
use Rattle.hash.proofs.by_rows.fill_by_byte.Given as goal

abbrev pub invariant-loop-i : goal.invariant-loop-i
invariant-loop-i l = Copied (table_entries 8 l.width) l.out l.i
