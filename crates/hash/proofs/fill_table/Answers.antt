-- The lent length says which table it is.
use Rattle.std.proofs.Common.{◌≡◌, ◌≢◌, true, ◌*◌, ℕ, sym, ap, ◌∙◌, ⊎_elim, arith}
use Rattle.theory.specs.Lists.{has}
use Rattle.theory.specs.Settings.{ipv6_width}
use Rattle.hash.specs.Digits.{table_length, table_entries}
use Rattle.hash.specs.Table.{table_lengths, lent_table}
use Rattle.hash.proofs.LentTableLaws.{lent_length, lent_by_byte, lent_by_half}
use Rattle.hash.proofs.fill_table.Goals as goal

-- ---- an allowed length, by whether it is that of the table by half-byte
module _ (n w : ℕ) (allowed : has n (table_lengths w) ≡ true) where
  half : n ≡ 1184 → lent_table w n ≡ table_entries 4 (2 * ipv6_width)
  half e =
      let wide : w ≡ ipv6_width = ⊎_elim (λ q. absurd (omega arith)) (λ q. q.0) (lent_length n w allowed) in
      lent_by_half w n (λ q. omega arith) ∙ ap (λ (k : ℕ). table_entries 4 (2 * k)) wide

  whole : n ≢ 1184 → n ≡ table_length 8 w
  whole other = ⊎_elim (λ q. q) (λ q. absurd (omega arith)) (lent_length n w allowed)

pub fill_by_byte-requires-clause-size : goal.fill_by_byte-requires-clause-size
fill_by_byte-requires-clause-size c = whole _ _ c.requires.size c.if-out-eq-HALF_TABLE_LENGTH.false

pub fill_by_half-requires : goal.fill_by_half-requires
fill_by_half-requires c = omega (arith, c.if-out-eq-HALF_TABLE_LENGTH.true)

pub returns-then-out-eq-HALF_TABLE_LENGTH : goal.returns-then-out-eq-HALF_TABLE_LENGTH
returns-then-out-eq-HALF_TABLE_LENGTH c =
    c.fill_by_half.ensures ∙ sym (half _ _ c.requires.size c.if-out-eq-HALF_TABLE_LENGTH.true)

pub returns-else-out-eq-HALF_TABLE_LENGTH : goal.returns-else-out-eq-HALF_TABLE_LENGTH
returns-else-out-eq-HALF_TABLE_LENGTH c =
    c.fill_by_byte.ensures ∙ sym (lent_by_byte _ _ (whole _ _ c.requires.size c.if-out-eq-HALF_TABLE_LENGTH.false))
