-- Document 01, 'Settings and areas': records and their bytes, the order of keys, and the record of a key in a list.
use Rattle.std.specs.Prelude.{Bool, true, false, cond, ◌&&◌, ◌||◌, List, [], ◌∷◌, ◌++◌, ℕ, zero, suc, ◌+◌, ◌*◌, ◌/◌, ◌%◌, ltb, eqb, take, drop}
use Rattle.std.proofs.Math.Option.{Option, none, some}

pub record Record : Type 0 where
  pub key : List ℕ
  pub class : ℕ

-- n in k bytes, high byte first
unfoldable pub to_bytes : ℕ → ℕ → List ℕ
to_bytes zero n = []
to_bytes (suc k) n = to_bytes k (n / 256) ++ (n % 256 ∷ [])

-- the number that bytes are, high byte first, where a is the number of those before them
unfoldable pub number_after : ℕ → List ℕ → ℕ
number_after a [] = a
number_after a (x ∷ xs) = number_after (a * 256 + x) xs

abbrev pub of_bytes : List ℕ → ℕ
of_bytes l = number_after 0 l

-- a two-byte count at the start of an area
abbrev pub count_of : List ℕ → ℕ
count_of a = of_bytes (take 2 a)

-- "a class an unsigned 32-bit number": its bytes
abbrev pub class_width : ℕ
class_width = 4

-- a record: the key, then the class
unfoldable pub record_bytes : Record → List ℕ
record_bytes r = r.key ++ to_bytes class_width r.class

-- n entries of z bytes each, one after the other, each as `read` takes it from the bytes that start with it
unfoldable pub entries : {A : Type 0} → ℕ → (List ℕ → A) → ℕ → List ℕ → List A
entries z read zero a = []
entries z read (suc n) a = read a ∷ entries z read n (drop z a)

-- the record that bytes start with, for keys of w bytes; and the first n records
unfoldable pub record_at : ℕ → List ℕ → Record
record_at w a = record { key = take w a; class = of_bytes (take class_width (drop w a)) }

unfoldable pub records : ℕ → ℕ → List ℕ → List Record
records w n a = entries (w + class_width) (record_at w) n a

-- keys: equal; in order, byte by byte from the first
abbrev pub same_key : List ℕ → List ℕ → Bool
same_key [] [] = true
same_key [] (y ∷ ys) = false
same_key (x ∷ xs) [] = false
same_key (x ∷ xs) (y ∷ ys) = eqb x y && same_key xs ys

abbrev pub key_below : List ℕ → List ℕ → Bool
key_below [] [] = false
key_below [] (y ∷ ys) = true
key_below (x ∷ xs) [] = false
key_below (x ∷ xs) (y ∷ ys) = ltb x y || (eqb x y && key_below xs ys)

-- k is below the key of the first record, if there is one; and keys strictly rising
abbrev pub below_first : List ℕ → List Record → Bool
below_first k [] = true
below_first k (r ∷ rs) = key_below k r.key

abbrev pub rising : List Record → Bool
rising [] = true
rising (r ∷ rs) = below_first r.key rs && rising rs

-- the record of a key
abbrev pub find : List ℕ → List Record → Option Record
find k [] = none
find k (r ∷ rs) = cond (same_key k r.key) (some r) (find k rs)

-- records are compared from the first up to the equal one or the last: how many
abbrev pub comparisons : List ℕ → List Record → ℕ
comparisons k [] = 0
comparisons k (r ∷ rs) = cond (same_key k r.key) 1 (suc (comparisons k rs))

-- the bytes themselves of the record of a key, among the first n records; none if no record has the key
unfoldable pub find_bytes : ℕ → ℕ → List ℕ → List ℕ → List ℕ
find_bytes w zero a k = []
find_bytes w (suc n) a k = cond (same_key k (take w a)) (take (w + class_width) a) (find_bytes w n (drop (w + class_width) a) k)
