-- What each door answers on every input: its number, and each lent area as the call leaves it.
use Rattle.std.specs.Prelude.{Bool, cond, List, [], ◌∷◌, ◌++◌, map, ℕ, ◌-◌, ◌^◌, eqb, length, replicate}
use Rattle.theory.specs.Lists.{has, upto}
use Rattle.theory.specs.Hash.{H, hash}
use Rattle.theory.specs.Settings.{Settings, allowed, width_allowed, Card, card_of, ledger_length, true_length, clipped_length, buckets_length, side_length}
use Rattle.theory.specs.Settings.{work_length}
use Rattle.hash.specs.Table.{table_lengths, lent_table, H_by}

-- a refusal unless a test holds; else what follows
abbrev pub unless : {A : Type 0} → Bool → A → A → A
unless test refusal next = cond test next refusal

-- the number answered, and the lent area at exit
pub record Filled : Type 0 where
  pub number : ℕ
  pub area : List ℕ

-- refused: the area is as it was
abbrev pub refused : ℕ → List ℕ → Filled
refused n before = record { number = n; area = before }

-- accepted: 0, and the area holds the list
abbrev pub filled : List ℕ → Filled
filled after = record { number = 0; area = after }

-- 1 when a setting is out of range, else 0
unfoldable pub settings_check_of : Settings → ℕ
settings_check_of t = unless (allowed t) 1 0

-- the lengths of ledger, true counts, clipped counts, buckets, side store and work
unfoldable pub lengths_of : Card → List ℕ
lengths_of s = ledger_length s ∷ true_length s ∷ clipped_length s ∷ buckets_length s ∷ side_length s ∷ work_length s ∷ []

-- 1 when a setting is out of range; 2 when the area is not of 6 numbers; else the lengths
unfoldable pub area_lengths_of : Settings → List ℕ → Filled
area_lengths_of t lengths =
    unless (allowed t) (refused 1 lengths) (unless (eqb (length lengths) 6) (refused 2 lengths) (filled (lengths_of (card_of t))))

-- 1 when the number is no key width; 2 when the area is of no length that a table of the width may have; else the table of that length: for each byte position
-- an entry for each of 256 byte values, or for each half-byte one for each of 16
unfoldable pub hash_table_of : ℕ → List ℕ → Filled
hash_table_of w table =
    unless (width_allowed w) (refused 1 table) (unless (has (length table) (table_lengths w)) (refused 2 table) (filled (lent_table w (length table))))

-- 2 when the area is not of 1 number; 3 when the key is not of the width; else the number x
unfoldable pub hash_as : ℕ → ℕ → List ℕ → List ℕ → Filled
hash_as x w key h = unless (eqb (length h) 1) (refused 2 h) (unless (eqb (length key) w) (refused 3 h) (filled (x ∷ [])))

-- 1 when the number is no key width; else H of the key
unfoldable pub hash_of : ℕ → List ℕ → List ℕ → Filled
hash_of w key h = unless (width_allowed w) (refused 1 h) (hash_as (H key) w key h)

-- with a lent table, whatever it holds: 2 also when its length is none that the width allows; else the xor of its entries for the digits of the key
unfoldable pub hash_lent_of : ℕ → List ℕ → List ℕ → List ℕ → Filled
hash_lent_of w table key h =
    unless (width_allowed w) (refused 1 h) (unless (has (length table) (table_lengths w)) (refused 2 h) (hash_as (H_by table key) w key h))

-- the number answered, and both lent areas at exit
pub record Numbered : Type 0 where
  pub number : ℕ
  pub hashes : List ℕ
  pub numbers : List ℕ

-- hash 0 to 3 of a key whose H is h, for m buckets
unfoldable pub first_hashes : ℕ → ℕ → List ℕ
first_hashes m h = map (λ j. hash m h j) (upto 0 4)

-- how many bucket numbers, then these, then zeros
unfoldable pub counted : List ℕ → List ℕ
counted l = length l ∷ l ++ replicate (4 - length l) 0

-- 1 when a setting is out of range; 2 when the areas are not of 4 and of 5 numbers; 3 when the key is not of the width; else the key's hashes and
-- bucket numbers
unfoldable pub key_buckets_of : Settings → List ℕ → List ℕ → List ℕ → Numbered
key_buckets_of t key hashes numbers =
    let refusal : ℕ → Numbered = λ n. record { number = n; hashes = hashes; numbers = numbers } in
    unless (allowed t) (refusal 1)
    (unless (eqb (length hashes) 4) (refusal 2)
    (unless (eqb (length numbers) 5) (refusal 2)
    (unless (eqb (length key) (card_of t).width) (refusal 3)
    (record { number = 0; hashes = first_hashes (2 ^ t.p) (H key); numbers = counted ((card_of t).numbers key) }))))
