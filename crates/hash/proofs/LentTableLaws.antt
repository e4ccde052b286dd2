-- A lent table of n entries, for keys of w bytes: which lengths are allowed, and which tables of these lengths are right.
use mathlib.Core.Path.{◌≡◌, refl, sym, ◌∙◌}
use mathlib.Core.Bool.{Bool, true, false, cond, ◌&&◌, ◌||◌, or-false, or_comm}
use mathlib.Core.List.{List, [], ◌∷◌}
use mathlib.Core.Logic.{◌⊎◌, inl, inr, ⊎_elim}
use Prim.Native.Nat.{ℕ, ◌*◌}
use native.Mathlib.Omega.{arith}
use lib.Dec.{eqb}
use lib.ListN.{length}
use borrow.Author.Tests.{eqb-true, eqb-false, eq-eqb, ne_eqb}
use Rattle.theory.specs.Lists.{has}
use Rattle.theory.specs.Settings.{ipv4_width, ipv6_width}
use Rattle.theory.proofs.ListLaws.{and_left, and_right, by_test}
use Rattle.hash.specs.Digits.{TableRight, table_length, table_entries}
use Rattle.hash.specs.Table.{table_lengths, TableFor, lent_table}
use Rattle.hash.proofs.DigitLaws.{table_entries_right, length_table_entries}

-- ---- the lengths
either_length : (six : Bool) (n half whole : ℕ)
    → has n (cond six (half ∷ whole ∷ []) (whole ∷ [])) ≡ (eqb n whole || (six && eqb n half))
either_length true n half whole = rw or-false (or_comm (eqb n half) (eqb n whole))
either_length false n half whole = refl

of_either : (a b c : Bool) → (a || (b && c)) ≡ true → (a ≡ true) ⊎ ((b ≡ true) × (c ≡ true))
of_either true b c e = inl refl
of_either false b c e = inr (and_left b c e, and_right b c e)

module _ (n w : ℕ) where
  pub length_allowed : has n (table_lengths w) ≡ (eqb n (table_length 8 w) || (eqb w ipv6_width && eqb n (table_length 4 (2 * w))))
  unfolding table_lengths
  length_allowed = either_length (eqb w ipv6_width) n (table_length 4 (2 * w)) (table_length 8 w)

  -- at 13 there is one length
  pub length_allowed_13 : w ≡ ipv4_width → eqb n (table_length 8 ipv4_width) ≡ has n (table_lengths w)
  length_allowed_13 e = sym (length_allowed ∙ rw (e, or-false))

  pub lent_length : has n (table_lengths w) ≡ true → (n ≡ table_length 8 w) ⊎ ((w ≡ ipv6_width) × (n ≡ table_length 4 (2 * w)))
  lent_length e =
      ⊎_elim (λ q. inl (eqb-true n (table_length 8 w) q)) (λ q. inr (eqb-true w ipv6_width q.0, eqb-true n (table_length 4 (2 * w)) q.1))
      (of_either (eqb n (table_length 8 w)) (eqb w ipv6_width) (eqb n (table_length 4 (2 * w))) (sym length_allowed ∙ e))

  -- an allowed length that is not by byte is by half-byte
  pub half_length : has n (table_lengths w) ≡ true → (n ≡ table_length 8 w → ⊥) → (w ≡ ipv6_width) × (n ≡ table_length 4 (2 * w))
  half_length e other = ⊎_elim (λ q. absurd (other q)) (λ q. q) (lent_length e)

  pub byte_length_allowed : n ≡ table_length 8 w → has n (table_lengths w) ≡ true
  byte_length_allowed e = length_allowed ∙ rw (eq-eqb n (table_length 8 w) e)

pub half_length_allowed : (n : ℕ) → n ≡ table_length 4 (2 * ipv6_width) → has n (table_lengths ipv6_width) ≡ true
half_length_allowed n e =
    length_allowed n ipv6_width ∙ rw (ne_eqb n (table_length 8 ipv6_width) (λ q. omega arith), eq-eqb n (table_length 4 (2 * ipv6_width)) e)

-- ---- a table that is right by its length
module _ (w : ℕ) (t : List ℕ) where
  pub table_for : TableRight 8 w t → length t ≡ table_length 8 w → TableFor w t
  table_for right e = record { by_byte = λ q. right; by_half = λ q. record { entry = λ a v ha hv. absurd (omega arith) } }

  pub half_table_for : TableRight 4 (2 * w) t → length t ≡ table_length 4 (2 * w) → TableFor w t
  half_table_for right e = record { by_byte = λ q. record { entry = λ a v ha hv. absurd (omega arith) }; by_half = λ q. right }

-- ---- the right table of n entries
module _ (w n : ℕ) where
  pub lent_by_byte : n ≡ table_length 8 w → lent_table w n ≡ table_entries 8 w
  unfolding lent_table
  lent_by_byte e = rw (eq-eqb n (table_length 8 w) e)

  pub lent_by_half : (n ≡ table_length 8 w → ⊥) → lent_table w n ≡ table_entries 4 (2 * w)
  unfolding lent_table
  lent_by_half other = rw (ne_eqb n (table_length 8 w) other)

  pub lent_table_right : has n (table_lengths w) ≡ true → TableFor w (lent_table w n)
  lent_table_right e =
      by_test (eqb n (table_length 8 w))
      (λ q. rw (lent_by_byte (eqb-true n (table_length 8 w) q)) (table_for w (table_entries 8 w) (table_entries_right 8 w) (length_table_entries 8 w)))
      (λ q. rw (lent_by_half (eqb-false n (table_length 8 w) q))
      (half_table_for w (table_entries 4 (2 * w)) (table_entries_right 4 (2 * w)) (length_table_entries 4 (2 * w))))

  pub length_lent_table : has n (table_lengths w) ≡ true → length (lent_table w n) ≡ n
  length_lent_table e =
      by_test (eqb n (table_length 8 w))
      (λ q. let whole = eqb-true n (table_length 8 w) q in rw (lent_by_byte whole) (length_table_entries 8 w ∙ sym whole))
      (λ q. let other = eqb-false n (table_length 8 w) q in
      rw (lent_by_half other) (length_table_entries 4 (2 * w) ∙ sym (half_length n w e other).1))
