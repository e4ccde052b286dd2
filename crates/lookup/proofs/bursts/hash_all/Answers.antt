-- `lookup::bursts::hash_all` meets its contract: the first i numbers are those of their keys.
use Rattle.std.proofs.Common.{◌≡◌, ap, ◌∙◌, true, List, ℕ, ◌*◌, ◌<◌, length, arith}
use Rattle.theory.specs.Lists.{has}
use Rattle.memory.proofs.SliceLaws.{length_part}
use Rattle.hash.specs.Table.{table_lengths, H_by}
use Rattle.lookup.specs.Bursts.{burst_key}
use Rattle.lookup.proofs.BurstLaws.{passed_more, passed_all, key_within}
use Rattle.lookup.proofs.bursts.hash_all.Goals as goal

-- ---- key i is part i of the keys, of the card's width
module _ (keys : List ℕ) (n w width i : ℕ) (size_is : length keys ≡ n * w) (width_is : width ≡ w) (here : i < n) (key : List ℕ)
    (key_is : key ≡ burst_key width keys i) where
  size : length key ≡ width
  size = ap length key_is ∙ length_part _ width keys (key_within keys n w width i size_is width_is here)

  long : (table : List ℕ) → has (length table) (table_lengths w) ≡ true → has (length table) (table_lengths (length key)) ≡ true
  long table right = ap (λ (n : ℕ). has (length table) (table_lengths n)) (size ∙ width_is) ∙ right

pub h_with_table-requires : goal.h_with_table-requires
h_with_table-requires c =
    let here : c.loop-i.i < length c.args.answers.now = omega (arith, c.loop-i.invariant.long) in
    long c.args.keys.now _ _ c.width-width.result c.loop-i.i c.requires.1 c.width-width.ensures here c.key_at-one.result.now c.key_at-one.ensures
    c.args.table.now c.requires.0

pub loop-i-preserved : goal.loop-i-preserved
loop-i-preserved c =
    passed_more c.loop-i.invariant _ (omega arith) (c.h_with_table.ensures.entries ∙ ap (H_by c.args.table.now) c.key_at-one.ensures)

pub returns : goal.returns
returns c = rw (← c.width-width.ensures) (passed_all c.loop-i.invariant (omega arith))
