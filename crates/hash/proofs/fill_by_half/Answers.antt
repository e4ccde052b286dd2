-- Entry i is that of the table.
use Rattle.std.proofs.Common.{◌*◌, refl, ◌∙◌, arith, rules}
use Rattle.theory.specs.Settings.{ipv6_width}
use Rattle.memory.proofs.CopyLaws.{copied_more, copied_all}
use Rattle.hash.proofs.DigitLaws.{right_table_entries}
use Rattle.hash.proofs.fill_by_half.Goals as goal

pub loop-i-init : goal.loop-i-init
loop-i-init c = record { inside = omega arith; long = search rules; front = refl }

pub loop-i-preserved : goal.loop-i-preserved
loop-i-preserved c = copied_more c.loop-i.invariant _ refl (omega arith)

pub returns : goal.returns
returns c = copied_all c.loop-i.invariant (omega arith) ∙ right_table_entries 4 (2 * ipv6_width) _ c.half_table.ensures (search rules)
