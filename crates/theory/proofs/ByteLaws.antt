-- Laws of bytes: numbers and records written and read back, and read and written back.
use mathlib.Core.Path.{◌≡◌, refl, sym, ap}
use mathlib.Core.List.{List, [], ◌∷◌, ◌++◌, append_assoc}
use Prim.Native.Nat.{ℕ, zero, suc, ◌+◌, ◌*◌, ◌/◌, ◌%◌, ◌^◌, ◌≤◌, ◌<◌}
use native.Mathlib.Nat.{div-add-mod', pow-suc, zero-mul, suc-mul, add_comm}
use native.Mathlib.Omega.{arith}
use lib.ListN.{length, take, drop, get_or, length-append, length-drop}
use lib.Seq.{take_at, drop_at, take-suc, take-add, length-take-le}
use Rattle.theory.specs.Lists.{flat}
use Rattle.theory.specs.Records.{Record, to_bytes, number_after, of_bytes, record_bytes, entries, record_at, records, find, same_key, find_bytes}
use Rattle.theory.specs.Lookup.{part}
pub use Rattle.theory.specs.Demands.{Byte, Fit}
use Rattle.theory.proofs.ListLaws.{by_test, All, all_map, all_at, all_drop, all_append}

-- ---- numbers
pub length_to_bytes : (k n : ℕ) → length (to_bytes k n) ≡ k
unfolding to_bytes
length_to_bytes zero n = refl
length_to_bytes (suc k) n = omega (arith, length-append (to_bytes k (n / 256)) (n % 256 ∷ []), length_to_bytes k (n / 256))

pub to_bytes_small : (k n : ℕ) → All Byte (to_bytes k n)
unfolding to_bytes
to_bytes_small zero n = tt
to_bytes_small (suc k) n = let low : n % 256 < 256 = omega arith in all_append Byte (to_bytes k (n / 256)) (n % 256 ∷ []) (to_bytes_small k (n / 256)) (low, tt)

number_snoc : (a : ℕ) (xs : List ℕ) (x : ℕ) → number_after a (xs ++ x ∷ []) ≡ number_after a xs * 256 + x
unfolding number_after
number_snoc a [] x = refl
number_snoc a (y ∷ ys) x = number_snoc (a * 256 + y) ys x

pub of_to_bytes : (k n : ℕ) → n < 256 ^ k → of_bytes (to_bytes k n) ≡ n
unfolding to_bytes number_after
of_to_bytes zero n h = omega arith
of_to_bytes (suc k) n h = rw (number_snoc, of_to_bytes k (n / 256) (omega arith), div-add-mod')

number_more : (k : ℕ) (l : List ℕ) → suc k ≤ length l → of_bytes (take (suc k) l) ≡ of_bytes (take k l) * 256 + get_or l k 0
number_more k l h = rw (take-suc l k 0 h) (number_snoc 0 (take k l) (get_or l k 0))

-- two bytes, one by one
pub count_is : (l : List ℕ) → 2 ≤ length l → of_bytes (take 2 l) ≡ get_or l 0 0 * 256 + get_or l 1 0
unfolding number_after
count_is [] h = absurd (omega arith)
count_is (x ∷ []) h = absurd (omega arith)
count_is (x ∷ y ∷ ys) h = omega arith

-- the first k bytes of a list of bytes: their number is below 256 ^ k, and is written as they are
module _ (l : List ℕ) (bytes : All Byte l) where
  pub number_below : (k : ℕ) → k ≤ length l → of_bytes (take k l) < 256 ^ k
  unfolding number_after
  number_below zero h = omega arith
  number_below (suc k) h = rw (number_more k l h, pow-suc) (omega (arith, number_below k (omega arith), all_at Byte l k 0 h bytes))

  pub to_of_bytes : (k : ℕ) → k ≤ length l → to_bytes k (of_bytes (take k l)) ≡ take k l
  unfolding to_bytes
  to_of_bytes zero h = refl
  to_of_bytes (suc k) h =
      let b : get_or l k 0 < 256 = all_at Byte l k 0 h bytes in
      let high : (of_bytes (take k l) * 256 + get_or l k 0) / 256 ≡ of_bytes (take k l) = omega arith in
      let low : (of_bytes (take k l) * 256 + get_or l k 0) % 256 ≡ get_or l k 0 = omega arith in
      rw (number_more k l h, high, low, to_of_bytes k (omega arith)) (sym (take-suc l k 0 h))

-- ---- entries of z bytes: written and read back, and read and written back
module _ {A : Type 0} (z : ℕ) (read : List ℕ → A) (write : A → List ℕ) where
  pub read_entries : (l : List A) (rest : List ℕ) → All (λ x. (length (write x) ≡ z) × ((more : List ℕ) → read (write x ++ more) ≡ x)) l
      → entries z read (length l) (flat write l ++ rest) ≡ l
  unfolding entries
  read_entries [] rest h = refl
  read_entries (x ∷ xs) rest h =
      rw (append_assoc, h.0.1 (flat write xs ++ rest), drop_at (write x) (flat write xs ++ rest) z h.0.0, read_entries xs rest h.1)

  pub length_entries : (n : ℕ) (a : List ℕ) → length (entries z read n a) ≡ n
  unfolding entries
  length_entries zero a = refl
  length_entries (suc n) a = ap suc (length_entries n (drop z a))

  room_for : (n : ℕ) (a : List ℕ) → suc n * z ≤ length a → (z ≤ length a) × (n * z ≤ length (drop z a))
  room_for n a h = let h' = rw suc-mul at h in (omega arith, rw length-drop (omega arith))

  -- what holds of each entry that bytes give, holds of all
  pub all_entries : (P : A → Type 0) → ((a : List ℕ) → z ≤ length a → All Byte a → P (read a)) → (n : ℕ) (a : List ℕ) → n * z ≤ length a → All Byte a
      → All P (entries z read n a)
  unfolding entries
  all_entries P f zero a h b = tt
  all_entries P f (suc n) a h b =
      let r = room_for n a h in (f a r.0 b, all_entries P f n (drop z a) r.1 (all_drop Byte z a b))

  pub write_entries : ((a : List ℕ) → z ≤ length a → All Byte a → write (read a) ≡ take z a) → (n : ℕ) (a : List ℕ) → n * z ≤ length a → All Byte a
      → flat write (entries z read n a) ≡ take (n * z) a
  unfolding entries
  write_entries f zero a h b = rw zero-mul
  write_entries f (suc n) a h b =
      let r = room_for n a h in
      rw (f a r.0 b, write_entries f n (drop z a) r.1 (all_drop Byte z a b), suc-mul, add_comm (n * z) z) (sym (take-add z (n * z) a))

-- ---- records with keys of w bytes
module _ (w : ℕ) where
  pub length_record : (r : Record) → Fit w r → length (record_bytes r) ≡ w + 4
  unfolding record_bytes
  length_record r f = omega (arith, length-append r.key (to_bytes 4 r.class), length_to_bytes 4 r.class, f.wide)

  key_first : (r : Record) (rest : List ℕ) → Fit w r → take w (record_bytes r ++ rest) ≡ r.key
  unfolding record_bytes
  key_first r rest f = rw append_assoc (take_at r.key (to_bytes 4 r.class ++ rest) w f.wide)

  read_record : (r : Record) (rest : List ℕ) → Fit w r → record_at w (record_bytes r ++ rest) ≡ r
  unfolding record_bytes record_at
  read_record r rest f =
      rw (append_assoc, take_at r.key (to_bytes 4 r.class ++ rest) w f.wide, drop_at r.key (to_bytes 4 r.class ++ rest) w f.wide)
      (rw (take_at (to_bytes 4 r.class) rest 4 (length_to_bytes 4 r.class), of_to_bytes 4 r.class f.small))

  pub read_records : (l : List Record) (rest : List ℕ) → All (Fit w) l → records w (length l) (flat record_bytes l ++ rest) ≡ l
  unfolding records
  read_records l rest h =
      read_entries (w + 4) (record_at w) record_bytes l rest (all_map (λ r f. (length_record r f, λ more. read_record r more f)) l h)

  -- the bytes of a key's record, found among records
  pub read_found : (k : List ℕ) (l : List Record) (rest : List ℕ) → All (Fit w) l → find_bytes w (length l) (flat record_bytes l ++ rest) k ≡ part (find k l)
  unfolding find_bytes
  read_found k [] rest h = refl
  read_found k (r ∷ rs) rest h =
      rw (append_assoc, take_at (record_bytes r) (flat record_bytes rs ++ rest) (w + 4) (length_record r h.0))
      (rw (drop_at (record_bytes r) (flat record_bytes rs ++ rest) (w + 4) (length_record r h.0))
      (rw (key_first r (flat record_bytes rs ++ rest) h.0, read_found k rs rest h.1) (by_test (same_key k r.key) (λ e. rw e) (λ e. rw e))))

  -- n records read out of bytes: how many, that they fit, and that they are written as the bytes that were read
  pub length_records : (n : ℕ) (a : List ℕ) → length (records w n a) ≡ n
  unfolding records
  length_records n a = length_entries (w + 4) (record_at w) record_bytes n a

  record_fits : (a : List ℕ) → w + 4 ≤ length a → All Byte a → Fit w (record_at w a)
  unfolding record_at
  record_fits a h b =
      record { wide = length-take-le w a (omega arith); small = number_below (drop w a) (all_drop Byte w a b) 4 (rw length-drop (omega arith)) }

  pub records_fit : (n : ℕ) (a : List ℕ) → n * (w + 4) ≤ length a → All Byte a → All (Fit w) (records w n a)
  unfolding records
  records_fit n a h b = all_entries (w + 4) (record_at w) record_bytes (Fit w) record_fits n a h b

  pub write_record : (a : List ℕ) → w + 4 ≤ length a → All Byte a → record_bytes (record_at w a) ≡ take (w + 4) a
  unfolding record_bytes record_at
  write_record a h b = rw (to_of_bytes (drop w a) (all_drop Byte w a b) 4 (rw length-drop (omega arith)), take-add)

  pub write_records : (n : ℕ) (a : List ℕ) → n * (w + 4) ≤ length a → All Byte a → flat record_bytes (records w n a) ≡ take (n * (w + 4)) a
  unfolding records
  write_records n a h b = write_entries (w + 4) (record_at w) record_bytes write_record n a h b
