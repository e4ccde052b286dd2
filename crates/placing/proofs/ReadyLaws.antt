-- What allowed settings and the right table give: the card is sound, and a key's bucket numbers and its choice are those of its hashes.
-- From the laws of settings.
use mathlib.Core.Path.{◌≡◌, sym, ◌∙◌}
use mathlib.Core.Bool.{true}
use mathlib.Core.Logic.{⊎_elim}
use mathlib.Core.List.{List, map}
use Prim.Native.Nat.{ℕ, ◌+◌, ◌*◌, ◌/◌, ◌%◌, ◌≤◌}
use native.Mathlib.Omega.{arith}
use lib.Dec.{eqb}
use lib.ListN.{length, take}
use lib.Seq.{take_all, length-take-le}
use Rattle.theory.specs.Lists.{has, least}
use Rattle.theory.specs.Hash.{H, numbers_of, hashes}
use Rattle.theory.specs.Settings as plain
use Rattle.theory.specs.Settings.{ipv4_width, ipv6_width, allowed, card_of}
use Rattle.theory.specs.Placing.{all_top, chosen}
use Rattle.theory.proofs.RankLaws.{any_numbers, rank, rank_least, rank_chosen}
use Rattle.theory.proofs.SettingsLaws.{ranges, Sound, sound}
use Rattle.theory.proofs.PlacingLaws.{all_top_least}
use Rattle.settings.specs.declared.Settings.{Settings}
use Rattle.settings.specs.Checked.{paper, card}
use Rattle.settings.proofs.Laws.{width_is, top_is, bounds}
use Rattle.hash.specs.Digits.{TableRight, table_length}
use Rattle.hash.specs.Table.{table_lengths, TableFor}
use Rattle.hash.specs.Made.{made_length, MadeFor}
use Rattle.hash.proofs.LentTableLaws.{byte_length_allowed, half_length_allowed, table_for, half_table_for}
use borrow.Author.Tests.{eq-eqb, ne_eqb}
use Rattle.std.proofs.Common.{Some, None}
use Rattle.placing.specs.Ready.{Ready}
use Rattle.placing.specs.Worked.{choice_of}
use Rattle.placing.proofs.RecordCountLaws.{none_chosen, some_chosen}

-- ---- a key's bucket numbers are its hashes, repeats dropped
module _ (t : plain.Settings) (h : ℕ) (key : List ℕ) (e : h ≡ H key) where
  numbers_by : (card_of t).numbers key ≡ numbers_of (card_of t).buckets t.k h
  unfolding card_of
  numbers_by = rw e

  pub has_hashes : (m : ℕ) → m ≡ (card_of t).buckets → (b : ℕ) → has b (hashes m h 0 t.k) ≡ has b ((card_of t).numbers key)
  has_hashes m m_is b = rw (numbers_by, m_is) (sym (any_numbers (eqb b) (card_of t).buckets t.k h))

-- the least rank of a key's hashes tells whether its counts are all top or more, and the bucket that it chooses
pub choice_by_rank : (t : plain.Settings) → allowed t ≡ true → (c : ℕ → ℕ) (m h best : ℕ) → m ≡ (card_of t).buckets
    → best ≡ least (t.top * 65536 + m) (map (rank c) (hashes m h 0 t.k)) → (key : List ℕ) → h ≡ H key
    → (eqb (best / 65536) t.top ≡ all_top (card_of t) c key) × (best % 65536 ≡ chosen (card_of t) c key)
choice_by_rank t ok c m h best m_is is_least key e =
    let s = card_of t in
    let b = bounds t ok in
    let least_is : best ≡ least (s.top * 65536 + s.buckets) (map (rank c) (hashes s.buckets h 0 t.k)) = is_least ∙ rw (m_is, top_is t) in
    let low = rank_least s c t.k h best (omega arith) (omega arith) least_is key (numbers_by t h key e) in
    (rw low (sym (all_top_least s c key ∙ rw (top_is t))), rank_chosen s c t.k h best (omega arith) (omega arith) least_is key (numbers_by t h key e))

-- the key goes to the side, or else to the bucket
module _ (t : plain.Settings) (ok : allowed t ≡ true) (c : ℕ → ℕ) (m h best : ℕ) (m_is : m ≡ (card_of t).buckets)
    (is_least : best ≡ least (t.top * 65536 + m) (map (rank c) (hashes m h 0 t.k))) (key : List ℕ) (e : h ≡ H key) where
  pub side_by_rank : best / 65536 ≡ t.top → None ≡ choice_of (card_of t) c key
  side_by_rank top =
      none_chosen (card_of t) c key (sym (choice_by_rank t ok c m h best m_is is_least key e).0 ∙ eq-eqb (best / 65536) t.top top)

  pub bucket_by_rank : (best / 65536 ≡ t.top → ⊥) → Some (best % 65536) ≡ choice_of (card_of t) c key
  bucket_by_rank other =
      let by_rank = choice_by_rank t ok c m h best m_is is_least key e in
      some_chosen (card_of t) c key (best % 65536) (sym by_rank.0 ∙ ne_eqb (best / 65536) t.top other) by_rank.1

-- the numbers of a loop over a key's hashes are small
pub record Few (s : Settings) (m : ℕ) : Type 0 where
  pub some : 16 ≤ m
  pub few : m ≤ 4096
  pub hashes_few : s.k ≤ 4

pub few : (s : Settings) → allowed (paper s) ≡ true → (m : ℕ) → m ≡ (card s).buckets → Few s m
few s ok m m_is =
    let b = bounds (paper s) ok in
    let r = ranges (paper s) ok in
    record { some = omega (arith, b.buckets_least); few = omega (arith, b.buckets_most); hashes_few = r.k_high }

module _ (s : Settings) (t : List ℕ) (ready : Ready s t) where
  pub sound_card : Sound (card s)
  sound_card = sound (paper s) ready.ok

  -- the table serves a key of the card's width
  module _ (k : List ℕ) (wide : length k ≡ (card s).width) where
    pub right_for : TableFor (length k) t
    right_for = rw wide ready.right

    pub long_for : has (length t) (table_lengths (length k)) ≡ true
    long_for = rw wide ready.long

-- ---- the table that a call makes: its entries are there, as many as it has
module _ {w n : ℕ} (n_is : n ≡ made_length w) {t : List ℕ} (made : MadeFor w t) where
  pub made_within : n ≤ length t
  made_within = rw n_is made.within

  pub made_long : n ≡ length (take n t)
  made_long = sym (length-take-le n t made_within)

-- it is the right one
pub ready : (s : Settings) → allowed (paper s) ≡ true → {w n : ℕ} → w ≡ (card s).width → n ≡ made_length w → {t : List ℕ} → MadeFor w t → Ready s (take n t)
ready s ok {w} wide n_is {t} made =
    record {
      ok = ok;
      right = rw (n_is, ← wide) made.right;
      long = rw (n_is, ← wide, length-take-le (made_length w) t made.within) made.long;
    }

pub made_ready : (s : Settings) → allowed (paper s) ≡ true → {w : ℕ} → w ≡ (card s).width → {t : List ℕ} → length t ≡ made_length w → MadeFor w t
    → Ready s t
made_ready s ok wide {t} long made =
    let all : take (length t) t ≡ t = take_all (length t) t (omega arith) in rw all at (ready s ok wide long made)

-- ---- and so are the constant tables, each at its width
module _ (s : Settings) (ok : allowed (paper s) ≡ true) {t : List ℕ} where
  pub ready_by_byte : s.width ≡ ipv4_width → TableRight 8 ipv4_width t → length t ≡ table_length 8 ipv4_width → Ready s t
  ready_by_byte narrow right whole =
      record {
        ok = ok;
        right = rw (width_is (paper s), narrow) (table_for ipv4_width t right whole);
        long = rw (width_is (paper s), narrow) (byte_length_allowed (length t) ipv4_width whole);
      }

  pub ready_by_half : (s.width ≡ ipv4_width → ⊥) → TableRight 4 (2 * ipv6_width) t → length t ≡ table_length 4 (2 * ipv6_width) → Ready s t
  ready_by_half other right whole =
      let wide : s.width ≡ ipv6_width = ⊎_elim (λ e. absurd (other e)) (λ e. e) (ranges (paper s) ok).width_one in
      record {
        ok = ok;
        right = rw (width_is (paper s), wide) (half_table_for ipv6_width t right whole);
        long = rw (width_is (paper s), wide) (half_length_allowed (length t) whole);
      }
