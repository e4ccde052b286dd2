-- Entry i is that of value i % 256 of byte i / 256.
use Rattle.std.proofs.Common.{◌≡◌, ℕ, ◌*◌, ◌/◌, ◌%◌, ◌<◌, get_or, refl, sym, ap, ◌∙◌, arith}
use native.Mathlib.Nat.{div-add-mod'}
use Rattle.theory.specs.Hash.{rows_of}
use Rattle.memory.proofs.CopyLaws.{copied_more}
use Rattle.hash.specs.Digits.{table_length, table_entries}
use Rattle.hash.proofs.RowLaws.{lent_rows}
use Rattle.hash.proofs.DigitLaws.{table_entries_right, length_table_entries}
use Rattle.hash.proofs.by_rows.fill_by_byte.Goals as goal

entry : (w i : ℕ) → i < table_length 8 w → rows_of 8 (8 * (i / 256)) (i % 256) ≡ get_or (table_entries 8 w) i 0
entry w i h =
    sym ((table_entries_right 8 w).entry (i / 256) (i % 256) (omega arith) (omega arith))
    ∙ ap (λ (k : ℕ). get_or (table_entries 8 w) k 0) (div-add-mod' i 256)

pub loop-i-init : goal.loop-i-init
loop-i-init c = record { inside = omega arith; long = c.requires.size ∙ sym (length_table_entries 8 c.args.width); front = refl }

pub loop-i-preserved : goal.loop-i-preserved
loop-i-preserved c =
    let i = c.loop-i.i in
    let long = length_table_entries 8 c.args.width in
    let place : i < table_length 8 c.args.width = omega (arith, c.loop-i.invariant.long, long) in
    copied_more c.loop-i.invariant _
    (c.xor_set.ensures ∙ lent_rows c.rows-rows.result.now c.rows-rows.ensures (i / 256) (omega arith) (i % 256) ∙ entry c.args.width i place) (omega (arith, place, long))
