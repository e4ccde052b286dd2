-- Records in rising key order, cut at a place: before it all are below a key, from it on none is. Then the key's record stands at the place or nowhere, and a
-- record of the key is put in, taken out or changed there (`cut_spot`). A search by halves finds the place.
-- Callers cite `search_room` and `search_rises` for what `find_spot` requires on a ledger area, and `ledger_spot` for what it ensures.
use mathlib.Core.Path.{◌≡◌, refl, sym, ap, ◌∙◌, subst}
use mathlib.Core.Bool.{Bool, true, false, cond, not, or-false, true≢false, false≢true}
use mathlib.Core.List.{List, [], ◌∷◌, map}
use Prim.Native.Nat.{ℕ, zero, suc, ◌+◌, ◌-◌, ◌*◌, ◌≤◌, ◌<◌}
use native.Mathlib.Nat.{le_refl, le_of_suc-le-suc}
use native.Mathlib.Numerals.{add-one}
use native.Mathlib.Omega.{arith}
use borrow.Author.Tests.{eq-eqb, le-ltb}
use lib.ListN.{length, take, drop, get_or, drop_of_length-le}
use lib.Seq.{drop-cons}
use Rattle.theory.specs.Lists.{filter}
use Rattle.theory.specs.Records.{Record, count_of, records, same_key, key_below, below_first, rising}
use Rattle.theory.specs.Settings.{Card, ledger_length}
use Rattle.theory.specs.Ledger.{held, insert, replace, without}
use Rattle.theory.specs.Calls.{ledger_records, ledger_invalid}
use Rattle.theory.proofs.ListLaws.{and_left, and_right, All, all_map, all_at, any_false}
use Rattle.theory.proofs.OrderLaws.{key_below_trans, key_below_total, below_first_far}
use Rattle.theory.proofs.PlacingLaws.{same_key_eq}
use Rattle.theory.proofs.CallLaws.{valid}
use Rattle.std.proofs.Common.{Result}
use Rattle.ledger.specs.Edits.{inserted_at, removed_at, replaced_at}
use Rattle.ledger.specs.Spots.{StandsAt, BelongsAt, SpotOf}
use Rattle.memory.proofs.SliceLaws.{tail_is}
use Rattle.ledger.proofs.KeyCompareLaws.{false_by, same_self}
use Rattle.ledger.proofs.RisingLaws.{no_record}
use Rattle.ledger.proofs.LedgerLaws.{has_count, records_room, records_are, records_rise}

-- ---- keys
below_self : (k : List ℕ) → key_below k k ≡ false
below_self [] = refl
below_self (x ∷ xs) = rw (le-ltb x x (le_refl x), eq-eqb x x refl, below_self xs)

-- a key below k is not k, and k is not below it
below_other : (k r : List ℕ) → key_below r k ≡ true → same_key k r ≡ false
below_other k r h = false_by (same_key k r) (λ e. true≢false (sym h ∙ ap (key_below r) (same_key_eq k r e) ∙ below_self r))

below_not_above : (k r : List ℕ) → key_below r k ≡ true → key_below k r ≡ false
below_not_above k r h = false_by (key_below k r) (λ e. true≢false (sym (key_below_trans k r k e h) ∙ below_self k))

-- a key that is neither k nor below it is above it
above_other : (k r : List ℕ) → key_below r k ≡ false → same_key k r ≡ false → key_below k r ≡ true
above_other k r h n =
    key_below_total r k h (false_by (same_key r k) (λ e. true≢false (sym (same_self k) ∙ ap (same_key k) (sym (same_key_eq r k e)) ∙ n)))

-- ---- lists that a test or a function leaves as they are
module _ {A : Type 0} where
  filter_whole : (t : A → Bool) (l : List A) → All (λ x. t x ≡ true) l → filter t l ≡ l
  filter_whole t [] h = refl
  filter_whole t (x ∷ xs) h = rw h.0 (ap (λ (r : List A). x ∷ r) (filter_whole t xs h.1))

  map_whole : (f : A → A) (l : List A) → All (λ x. f x ≡ x) l → map f l ≡ l
  map_whole f [] h = refl
  map_whole f (x ∷ xs) h = rw h.0 (ap (λ (r : List A). x ∷ r) (map_whole f xs h.1))

-- ---- records in rising order
rising_rest : (x : Record) (xs : List Record) → rising (x ∷ xs) ≡ true → rising xs ≡ true
rising_rest x xs up = and_right (below_first x.key xs) _ up

above_head : (x : Record) (xs : List Record) → rising (x ∷ xs) ≡ true → All (λ r. key_below x.key r.key ≡ true) xs
above_head x xs up = below_first_far x.key xs (and_left _ _ up) (rising_rest x xs up)

rising_drop : (n : ℕ) (l : List Record) → rising l ≡ true → rising (drop n l) ≡ true
rising_drop zero l up = up
rising_drop (suc n) [] up = refl
rising_drop (suc n) (x ∷ xs) up = rising_drop n xs (rising_rest x xs up)

-- ---- below a key, or not
abbrev Below : List ℕ → Record → Type 0
Below k r = key_below r.key k ≡ true

abbrev NotBelow : List ℕ → Record → Type 0
NotBelow k r = key_below r.key k ≡ false

-- a list cut at a place, where a test t says whether the key is held
record Cut (l : List Record) (k : List ℕ) (t : Bool) (at : ℕ) : Type 0 where
  within : at ≤ length l
  says : t ≡ held k l
  inserted : t ≡ false → (x : Record) → x.key ≡ k → insert x l ≡ inserted_at at x l
  stands : t ≡ true → at < length l
  removed : t ≡ true → without k l ≡ removed_at at l
  replaced : t ≡ true → (x : Record) → x.key ≡ k → replace x l ≡ replaced_at at x l

stands_by : {l : List Record} {k : List ℕ} {at : ℕ} → Cut l k true at → StandsAt l k at
stands_by c = record { listed = c.stands refl; says = sym c.says; removed = c.removed refl; replaced = c.replaced refl }

belongs_by : {l : List Record} {k : List ℕ} {at : ℕ} → Cut l k false at → BelongsAt l k at
belongs_by c = record { within = c.within; says = sym c.says; inserted = c.inserted refl }

module _ (k : List ℕ) where
  -- a record x of the key is compared as the key is
  below_by : (x : Record) → x.key ≡ k → (r : Record) (b : Bool) → key_below k r.key ≡ b → key_below x.key r.key ≡ b
  below_by x q r b e = ap (λ (z : List ℕ). key_below z r.key) q ∙ e

  same_by : (x : Record) → x.key ≡ k → (r : Record) (b : Bool) → same_key k r.key ≡ b → same_key x.key r.key ≡ b
  same_by x q r b e = ap (λ (z : List ℕ). same_key z r.key) q ∙ e

  -- one record below the key: so are all up to it; one that is not: nor are those after it
  below_up_to : (l : List Record) (i : ℕ) → i < length l → rising l ≡ true → Below k (get_or l i no_record) → All (Below k) (take (suc i) l)
  below_up_to [] i h up e = absurd (omega arith)
  below_up_to (x ∷ xs) zero h up e = (e, tt)
  below_up_to (x ∷ xs) (suc i) h up e =
      let far = all_at (λ r. key_below x.key r.key ≡ true) xs i no_record (le_of_suc-le-suc h) (above_head x xs up) in
      (key_below_trans x.key (get_or xs i no_record).key k far e, below_up_to xs i (le_of_suc-le-suc h) (rising_rest x xs up) e)

  above_all : (x : Record) (xs : List Record) → rising (x ∷ xs) ≡ true → NotBelow k x → All (NotBelow k) xs
  above_all x xs up e =
      all_map (λ r f. false_by (key_below r.key k) (λ q. true≢false (sym (key_below_trans x.key r.key k f q) ∙ e))) xs (above_head x xs up)

  above_from : (l : List Record) (i : ℕ) → i < length l → rising l ≡ true → NotBelow k (get_or l i no_record) → All (NotBelow k) (drop i l)
  above_from [] i h up e = absurd (omega arith)
  above_from (x ∷ xs) zero h up e = (e, above_all x xs up e)
  above_from (x ∷ xs) (suc i) h up e = above_from xs i (le_of_suc-le-suc h) (rising_rest x xs up) e

  -- ---- the first record is not below the key: it is the key's, or none is
  module _ (y : Record) (ys : List Record) (up : rising (y ∷ ys) ≡ true) (e : NotBelow k y) where
    others : All (λ r. same_key k r.key ≡ false) ys
    others =
        all_map (λ r f. false_by (same_key k r.key) (λ q. true≢false (sym f ∙ ap (key_below y.key) (sym (same_key_eq k r.key q)) ∙ e))) ys
        (above_head y ys up)

    held_first : held k (y ∷ ys) ≡ same_key k y.key
    unfolding held
    held_first = rw (any_false (λ r. same_key k r.key) ys others, or-false)

    spot_first : (t : Bool) → t ≡ same_key k y.key → Cut (y ∷ ys) k t 0
    unfolding replace without
    spot_first t is =
        record {
          within = omega arith;
          says = is ∙ sym held_first;
          inserted = λ f x q. rw (below_by x q y true (above_other k y.key e (sym is ∙ f)));
          stands = λ f. omega arith;
          removed = λ f. rw (sym is ∙ f) (filter_whole (λ r. not (same_key k r.key)) ys (all_map (λ r h. ap not h) ys others));
          replaced = λ f x q.
              rw (same_by x q y true (sym is ∙ f)) (ap (λ (r : List Record). x ∷ r) (map_whole (λ r. cond (same_key x.key r.key) x r) ys
              (all_map (λ r h. ap (λ (b : Bool). cond b x r) (same_by x q r false h)) ys others)));
        }

  -- ---- one record more before the place, below the key
  spot_next : (y : Record) (ys : List Record) (t : Bool) (at : ℕ) → Below k y → Cut ys k t at → Cut (y ∷ ys) k t (suc at)
  unfolding held replace without
  spot_next y ys t at b spot =
      let other = below_other k y.key b in
      record {
        within = omega (arith, spot.within);
        says = rw other spot.says;
        inserted = λ f x q. rw (below_by x q y false (below_not_above k y.key b)) (ap (λ (r : List Record). y ∷ r) (spot.inserted f x q));
        stands = λ f. omega (arith, spot.stands f);
        removed = λ f. rw (other, add-one) (ap (λ (r : List Record). y ∷ r) (rw add-one at (spot.removed f)));
        replaced = λ f x q. rw (same_by x q y false other, add-one) (ap (λ (r : List Record). y ∷ r) (rw add-one at (spot.replaced f x q)));
      }

  -- ---- a list cut at a place
  cut_spot : (t : Bool) (l : List Record) (at : ℕ) → at ≤ length l → rising l ≡ true → All (Below k) (take at l) → All (NotBelow k) (drop at l)
      → t ≡ held k (drop at l) → Cut l k t at
  unfolding held
  cut_spot t [] zero h up before after is =
      record {
        within = omega arith;
        says = is;
        inserted = λ f x q. refl;
        stands = λ f. absurd (false≢true (sym is ∙ f));
        removed = λ f. absurd (false≢true (sym is ∙ f));
        replaced = λ f. absurd (false≢true (sym is ∙ f));
      }
  cut_spot t [] (suc at) h up before after is = absurd (omega arith)
  cut_spot t (y ∷ ys) zero h up before after is = spot_first y ys up after.0 t (is ∙ held_first y ys up after.0)
  cut_spot t (y ∷ ys) (suc at) h up before after is =
      spot_next y ys t at before.0 (cut_spot t ys at (le_of_suc-le-suc h) (rising_rest y ys up) before.1 after is)

-- ---- a search by halves: of records in rising order those before low are below the key, and none from high on is
pub record Halving (l : List Record) (k : List ℕ) (low high : ℕ) : Type 0 where
  pub order : low ≤ high
  pub within : high ≤ length l
  pub up : rising l ≡ true
  pub before : All (Below k) (take low l)
  pub after : All (NotBelow k) (drop high l)

pub halving_start : (l : List Record) (k : List ℕ) (n : ℕ) → length l ≡ n → rising l ≡ true → Halving l k 0 n
halving_start l k n e up =
    let past : length l ≤ n = omega arith in
    record { order = omega arith; within = omega arith; up = up; before = tt; after = rw (drop_of_length-le l past) tt }

module _ {l : List Record} {k : List ℕ} {low high : ℕ} (g : Halving l k low high) (i : ℕ) (h : i < high) where
  pub halving_up : key_below (get_or l i no_record).key k ≡ true → Halving l k (i + 1) high
  halving_up e =
      let before = below_up_to k l i (omega (arith, g.within)) g.up e in
      record { order = omega arith; within = g.within; up = g.up; before = rw add-one before; after = g.after }

  pub halving_down : low ≤ i → key_below (get_or l i no_record).key k ≡ false → Halving l k low i
  halving_down le e =
      let after = above_from k l i (omega (arith, g.within)) g.up e in
      record { order = le; within = omega (arith, g.within); up = g.up; before = g.before; after = after }

-- low and high have met: the place of the key
module _ {l : List Record} {k : List ℕ} {low high : ℕ} (g : Halving l k low high) (met : high ≤ low) where
  cut : All (NotBelow k) (drop low l)
  cut = let e : high ≡ low = omega (arith, g.order) in subst (λ (i : ℕ). All (NotBelow k) (drop i l)) e g.after

  spot_met : (t : Bool) → t ≡ held k (drop low l) → Cut l k t low
  spot_met t e = cut_spot k t l low (omega (arith, g.order, g.within)) g.up g.before cut e

  pub found_end : length l ≤ low → BelongsAt l k low
  unfolding held
  found_end past = belongs_by (spot_met false (rw (drop_of_length-le l past)))

  found_by : low < length l → (t : Bool) → t ≡ same_key k (get_or l low no_record).key → Cut l k t low
  found_by listed t e =
      let here : drop low l ≡ get_or l low no_record ∷ drop (suc low) l = drop-cons l low no_record listed in
      let up : rising (get_or l low no_record ∷ drop (suc low) l) ≡ true = rw here at (rising_drop low l g.up) in
      let first : All (NotBelow k) (get_or l low no_record ∷ drop (suc low) l) = rw here at cut in
      spot_met t (rw here (e ∙ sym (held_first k (get_or l low no_record) (drop (suc low) l) up first.0)))

  pub found_stands : low < length l → true ≡ same_key k (get_or l low no_record).key → StandsAt l k low
  found_stands listed e = stands_by (found_by listed true e)

  pub found_belongs : low < length l → false ≡ same_key k (get_or l low no_record).key → BelongsAt l k low
  found_belongs listed e = belongs_by (found_by listed false e)

-- ---- a search among the places of a ledger area within the rules, lent from its third byte on, where n is its count
module _ (c : Card) (a : List ℕ) (whole : length a ≡ ledger_length c) (rules : ledger_invalid c a ≡ false) (n : ℕ) (count : n ≡ count_of a) (k : List ℕ)
    (wide : length k ≡ c.width) where
  lent : take (length a - 2) (drop 2 a) ≡ drop 2 a
  lent = tail_is 2 a (has_count c a whole)

  pub search_room : n * (length k + 4) ≤ length (take (length a - 2) (drop 2 a))
  search_room = rw (lent, wide) (records_room c a whole n (omega (arith, (valid c a rules).few)))

  pub search_rises : rising (records (length k) n (take (length a - 2) (drop 2 a))) ≡ true
  search_rises = rw (lent, wide) (records_rise c a n count rules)

  pub ledger_spot : (r : Result ℕ ℕ) → SpotOf (records (length k) n (take (length a - 2) (drop 2 a))) k r → SpotOf (ledger_records c a) k r
  ledger_spot r found =
      subst (λ (l : List Record). SpotOf l k r)
      (ap (λ (l : List ℕ). records (length k) n l) lent ∙ ap (λ (w : ℕ). records w n (drop 2 a)) wide ∙ records_are c a n count) found
