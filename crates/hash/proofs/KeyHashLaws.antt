-- H byte by byte: what a loop up the key's bytes asks, with a table and with the rows.
use mathlib.Core.Path.{◌≡◌, refl, sym, ap, ap₂, ◌∙◌}
use mathlib.Core.Bool.{true}
use mathlib.Core.Logic.{⊎_elim}
use mathlib.Core.List.{List, [], ◌∷◌}
use Prim.Native.Nat.{ℕ, suc, ◌+◌, ◌*◌, ◌/◌, ◌%◌, ◌^◌, ◌<◌, ◌≤◌}
use native.Mathlib.Numerals.{add-one}
use native.Mathlib.Omega.{arith}
use lib.Dec.{eqb}
use lib.Bits.{bit_xor, xor_zero_r}
use lib.ListN.{length, get_or, take, drop, drop_of_length-le}
use lib.Seq.{drop-cons, take_all}
use borrow.Author.Tests.{eqb-true, eqb-false, eq-eqb, ne_eqb}
use Rattle.theory.specs.Lists.{has}
use Rattle.theory.specs.Hash.{if_set, rows_of, H_from, H}
use Rattle.theory.specs.Settings.{ipv4_width}
use Rattle.theory.proofs.ListLaws.{by_test}
use Rattle.hash.specs.Digits.{TableRight, table_length}
use Rattle.hash.specs.Table.{table_lengths, TableFor, halves, H_by_from, H_by, xor_set}
use Rattle.hash.proofs.Xor.{xor_assoc}
use Rattle.hash.proofs.SplitLaws.{rows_split}
use Rattle.hash.proofs.LentTableLaws.{lent_length, half_length}

-- ---- a loop up the key: h is of the digits before digit a, of all of which the table gives `all`
digit_more : (bits : ℕ) (t : List ℕ) (a h d : ℕ) (ds : List ℕ) (all : ℕ) → bit_xor h (H_by_from bits t a (d ∷ ds)) ≡ all
    → bit_xor (bit_xor h (get_or t (a * 2 ^ bits + d) 0)) (H_by_from bits t (suc a) ds) ≡ all
unfolding H_by_from
digit_more bits t a h d ds all e = xor_assoc h (get_or t (a * 2 ^ bits + d) 0) (H_by_from bits t (suc a) ds) ∙ e

digits_end : (bits : ℕ) (t : List ℕ) (a h all : ℕ) → bit_xor h (H_by_from bits t a []) ≡ all → h ≡ all
unfolding H_by_from
digits_end bits t a h all e = sym (xor_zero_r h) ∙ e

module _ (t key : List ℕ) (i h all : ℕ) where
  -- the bytes from byte i on, and their halves
  pub bytes_more : i < length key → bit_xor h (H_by_from 8 t i (drop i key)) ≡ all
      → bit_xor (bit_xor h (get_or t (i * 256 + get_or key i 0) 0)) (H_by_from 8 t (i + 1) (drop (i + 1) key)) ≡ all
  bytes_more hi e = rw (add-one i) (digit_more 8 t i h (get_or key i 0) (drop (suc i) key) all (rw (drop-cons key i 0 hi) at e))

  pub bytes_end : length key ≤ i → bit_xor h (H_by_from 8 t i (drop i key)) ≡ all → h ≡ all
  bytes_end hi e = digits_end 8 t i h all (rw (drop_of_length-le key hi) at e)

  pub halves_more : i < length key → bit_xor h (H_by_from 4 t (2 * i) (halves (drop i key))) ≡ all
      → bit_xor (bit_xor (bit_xor h (get_or t (i * 32 + get_or key i 0 % 16) 0)) (get_or t (i * 32 + 16 + get_or key i 0 / 16) 0))
      (H_by_from 4 t (2 * (i + 1)) (halves (drop (i + 1) key))) ≡ all
  unfolding halves
  halves_more hi e =
      let v = get_or key i 0 in
      let rest = halves (drop (suc i) key) in
      let low : i * 32 + v % 16 ≡ 2 * i * 16 + v % 16 = omega arith in
      let high : i * 32 + 16 + v / 16 ≡ suc (2 * i) * 16 + v / 16 = omega arith in
      let next : 2 * (i + 1) ≡ suc (suc (2 * i)) = omega arith in
      rw (next, add-one i, low, high)
      (digit_more 4 t (suc (2 * i)) (bit_xor h (get_or t (2 * i * 16 + v % 16) 0)) (v / 16) rest all
      (digit_more 4 t (2 * i) h (v % 16) (v / 16 ∷ rest) all (rw (drop-cons key i 0 hi) at e)))

  pub halves_end : length key ≤ i → bit_xor h (H_by_from 4 t (2 * i) (halves (drop i key))) ≡ all → h ≡ all
  unfolding halves
  halves_end hi e = digits_end 4 t (2 * i) h all (rw (drop_of_length-le key hi) at e)

-- ---- what a table gives, by its length
module _ (t key : List ℕ) where
  pub by_byte_is : length t ≡ table_length 8 (length key) → H_by t key ≡ H_by_from 8 t 0 key
  unfolding H_by
  by_byte_is e = rw (eq-eqb (length t) (table_length 8 (length key)) e)

  pub by_half_is : (length t ≡ table_length 8 (length key) → ⊥) → H_by t key ≡ H_by_from 4 t 0 (halves key)
  unfolding H_by
  by_half_is other = rw (ne_eqb (length t) (table_length 8 (length key)) other)

-- ---- a key of 13 bytes, which is read as the first 13 bytes of itself: an allowed table is by byte
module _ (t key : List ℕ) (allowed : has (length t) (table_lengths (length key)) ≡ true) (narrow : length key ≡ ipv4_width) where
  pub ipv4_whole : length t ≡ table_length 8 (length key)
  ipv4_whole = ⊎_elim (λ e. e) (λ e. absurd (omega arith)) (lent_length (length t) (length key) allowed)

  pub ipv4_key : take ipv4_width key ≡ key
  ipv4_key = take_all ipv4_width key (omega arith)

  pub ipv4_fits : table_length 8 (length (take ipv4_width key)) ≤ length t
  ipv4_fits = rw ipv4_key (omega (arith, ipv4_whole))

  pub ipv4_gives : {r : ℕ} → r ≡ H_by_from 8 t 0 (take ipv4_width key) → r ≡ H_by t key
  ipv4_gives e = e ∙ ap (H_by_from 8 t 0) ipv4_key ∙ sym (by_byte_is t key ipv4_whole)

  -- and where the table is right, H
  pub ipv4_hash : TableFor (length key) t → {r : ℕ} → (TableRight 8 (length (take ipv4_width key)) t → r ≡ H (take ipv4_width key)) → r ≡ H key
  ipv4_hash right e = e (rw ipv4_key (right.by_byte ipv4_whole)) ∙ ap H ipv4_key

-- ---- a right table gives H of a key of bytes
module _ (w : ℕ) (t : List ℕ) where
  pub bytes_right : TableRight 8 w t → (a : ℕ) (vs : List ℕ) → a + length vs ≤ w → ((j : ℕ) → get_or vs j 0 < 256) → H_by_from 8 t a vs ≡ H_from a vs
  unfolding H_by_from H_from
  bytes_right right a [] fits bytes = refl
  bytes_right right a (v ∷ vs) fits bytes =
      ap₂ bit_xor (right.entry a v (omega arith) (bytes 0)) (bytes_right right (suc a) vs (omega arith) (λ j. bytes (suc j)))

  halves_right : TableRight 4 (2 * w) t → (a : ℕ) (vs : List ℕ) → a + length vs ≤ w → ((j : ℕ) → get_or vs j 0 < 256)
      → H_by_from 4 t (2 * a) (halves vs) ≡ H_from a vs
  unfolding H_by_from H_from halves
  halves_right right a [] fits bytes = refl
  halves_right right a (v ∷ vs) fits bytes =
      let small : v < 256 = bytes 0 in
      let low : 4 * (2 * a) ≡ 8 * a = omega arith in
      let high : 4 * suc (2 * a) ≡ 8 * a + 4 = omega arith in
      let next : suc (suc (2 * a)) ≡ 2 * suc a = omega arith in
      rw (next, right.entry (2 * a) (v % 16) (omega arith) (omega arith), right.entry (suc (2 * a)) (v / 16) (omega arith) (omega arith), low, high)
      (rw (rows_split 4 4 (8 * a) v, halves_right right (suc a) vs (omega arith) (λ j. bytes (suc j)))
      (sym (xor_assoc (rows_of 4 (8 * a) (v % 16)) (rows_of 4 (8 * a + 4) (v / 16)) (H_from (suc a) vs))))

  pub by_right : TableFor w t → has (length t) (table_lengths w) ≡ true → (key : List ℕ) → length key ≡ w → ((j : ℕ) → get_or key j 0 < 256)
      → H_by t key ≡ H key
  unfolding H
  by_right right allowed key e bytes =
      let longest : 0 + length key ≤ w = omega arith in
      by_test (eqb (length t) (table_length 8 (length key)))
      (λ q. let whole = eqb-true (length t) (table_length 8 (length key)) q in
      by_byte_is t key whole ∙ bytes_right (right.by_byte (rw e at whole)) 0 key longest bytes)
      (λ q. let other = eqb-false (length t) (table_length 8 (length key)) q in
      let half = (half_length (length t) w allowed (rw e at other)).1 in
      by_half_is t key other ∙ halves_right (right.by_half half) 0 key longest bytes)

-- ---- a loop up the rows: h is of the rows before row i, and `bits` are those of v from bit i on
module _ (rs : List ℕ) (i h bits all : ℕ) where
  pub set_more : i < length rs → bit_xor h (xor_set (drop i rs) bits) ≡ all → {r : ℕ} → r ≡ if_set (bits % 2) (get_or rs i 0)
      → bit_xor (bit_xor h r) (xor_set (drop (i + 1) rs) (bits / 2)) ≡ all
  unfolding xor_set
  set_more hi e is =
      rw (is, add-one i) (xor_assoc h (if_set (bits % 2) (get_or rs i 0)) (xor_set (drop (suc i) rs) (bits / 2)) ∙ rw (drop-cons rs i 0 hi) at e)

  pub set_end : length rs ≤ i → bit_xor h (xor_set (drop i rs) bits) ≡ all → h ≡ all
  unfolding xor_set
  set_end hi e = sym (xor_zero_r h) ∙ rw (drop_of_length-le rs hi) at e

-- ---- a loop up the key by the rows: h is of the bytes before byte i
module _ (key : List ℕ) (i h all : ℕ) where
  pub byte_more : i < length key → bit_xor h (H_from i (drop i key)) ≡ all → {b : ℕ} → b ≡ rows_of 8 (8 * i) (get_or key i 0)
      → bit_xor (bit_xor h b) (H_from (i + 1) (drop (i + 1) key)) ≡ all
  unfolding H_from
  byte_more hi e is =
      rw (is, add-one i) (xor_assoc h (rows_of 8 (8 * i) (get_or key i 0)) (H_from (suc i) (drop (suc i) key)) ∙ rw (drop-cons key i 0 hi) at e)

  pub byte_end : length key ≤ i → bit_xor h (H_from i (drop i key)) ≡ all → h ≡ all
  unfolding H_from
  byte_end hi e = sym (xor_zero_r h) ∙ rw (drop_of_length-le key hi) at e
