-- What the doors of hashes write is what their definitions give.
use mathlib.Core.Path.{◌≡◌, subst}
use mathlib.Core.Bool.{true}
use mathlib.Core.List.{List}
use Prim.Native.Nat.{ℕ, ◌^◌, ◌<◌}
use lib.Dec.{eqb}
use lib.ListN.{length, get_or}
use borrow.Author.Tests.{eq-eqb, eqb-true}
use Rattle.theory.specs.Hash.{H, numbers_of}
use Rattle.theory.specs.Lists.{has}
use Rattle.theory.specs.Settings.{width_allowed, allowed, card_of}
use Rattle.theory.proofs.ListLaws.{by_test}
use Rattle.settings.specs.declared.Settings.{Settings}
use Rattle.settings.specs.Checked.{paper, card}
use Rattle.hash.specs.Table.{table_lengths, TableFor, lent_table}
use Rattle.hash.proofs.KeyHashLaws.{by_right}
use Rattle.hash.proofs.LentTableLaws.{lent_table_right}
use Rattle.card.specs.Doors.{Filled, filled, hash_table_of, hash_as, hash_of, hash_lent_of, first_hashes, counted, key_buckets_of}

-- what the door of the table writes is a table that the doors with a lent table take
module _ (w : ℕ) (table : List ℕ) (allows : width_allowed w ≡ true) (right : has (length table) (table_lengths w) ≡ true) where
  hash_table_0 : filled (lent_table w (length table)) ≡ hash_table_of w table
  unfolding hash_table_of
  hash_table_0 = rw (allows, right)

  pub table_right : TableFor w (hash_table_of w table).area
  table_right = subst (λ (f : Filled). TableFor w f.area) hash_table_0 (lent_table_right w (length table) right)

-- with a right table of its length the door of H with a lent table is the door without a table
module _ (w : ℕ) (key h : List ℕ) (allows : width_allowed w ≡ true) (table : List ℕ) where
  pub lent_right : has (length table) (table_lengths w) ≡ true → TableFor w table → ((i : ℕ) → get_or key i 0 < 256)
      → hash_lent_of w table key h ≡ hash_of w key h
  unfolding hash_as hash_lent_of hash_of
  lent_right long right bytes =
      rw (allows, long)
      (by_test (eqb (length key) w) (λ e. rw (by_right w table right long key (eqb-true (length key) w e) bytes)) (λ e. rw e))

-- a key's hashes and bucket numbers, under the code's settings
pub key_buckets_written : (s : Settings) (key hashes numbers : List ℕ) → allowed (paper s) ≡ true → length hashes ≡ 4 → length numbers ≡ 5
    → length key ≡ (card s).width
    → record { number = 0; hashes = first_hashes (2 ^ s.p) (H key); numbers = counted (numbers_of (2 ^ s.p) s.k (H key)) }
    ≡ key_buckets_of (paper s) key hashes numbers
unfolding key_buckets_of card_of
key_buckets_written s key hashes numbers ok four five long =
    rw (ok, eq-eqb (length hashes) 4 four, eq-eqb (length numbers) 5 five, eq-eqb (length key) s.width long)
