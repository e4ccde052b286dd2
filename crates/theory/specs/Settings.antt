-- Document 01, 'Settings and areas', with the key width of document 02, U7: the seven settings, their limits, and the lengths of the six areas.
use Rattle.std.specs.Prelude.{◌≡◌, ◌⊎◌, Bool, cond, ◌&&◌, ◌||◌, List, [], ◌∷◌, ℕ, ◌+◌, ◌*◌, ◌/◌, ◌^◌, leb, eqb, length, get_or}
use Rattle.theory.specs.Lists.{all}
use Rattle.theory.specs.Hash.{H, numbers_of}
use Rattle.theory.specs.Records.{class_width}

-- in the paper's order and letters: p, k, B (records a bucket), T (top count), N (capacity), S (side places), the key width
pub record Settings : Type 0 where
  pub p : ℕ
  pub k : ℕ
  pub room : ℕ
  pub top : ℕ
  pub capacity : ℕ
  pub side_places : ℕ
  pub width : ℕ

-- seven numbers, in this order, as settings
abbrev pub settings_of : ℕ → ℕ → ℕ → ℕ → ℕ → ℕ → ℕ → Settings
settings_of p k room top capacity side_places width =
    record { p = p; k = k; room = room; top = top; capacity = capacity; side_places = side_places; width = width }

-- "A key is 13 bytes": an IPv4 flow's; an IPv6 flow's is 37
abbrev pub ipv4_width : ℕ
ipv4_width = 13

abbrev pub ipv6_width : ℕ
ipv6_width = 37

abbrev pub in_range : ℕ → ℕ → ℕ → Bool
in_range low high n = leb low n && leb n high

-- a key width is one of the two: as a test, and as what functions ask
abbrev pub width_allowed : ℕ → Bool
width_allowed n = eqb n ipv4_width || eqb n ipv6_width

abbrev pub KeyWidth : ℕ → Type 0
KeyWidth n = (n ≡ ipv4_width) ⊎ (n ≡ ipv6_width)

-- each setting is in its range; else 1
unfoldable pub in_ranges : Settings → List Bool
in_ranges t =
    in_range 4 12 t.p ∷ in_range 1 4 t.k ∷ in_range 1 4 t.room ∷ in_range 2 15 t.top ∷ in_range 1 4096 t.capacity
    ∷ in_range 0 64 t.side_places ∷ width_allowed t.width ∷ []

unfoldable pub allowed : Settings → Bool
allowed t = all (λ x. x) (in_ranges t)

-- what placing, layout and search take of the settings: the key width, the bucket count m, B, T, N, S, and the rule that gives a key's bucket numbers
pub record Card : Type 0 where
  pub width : ℕ
  pub buckets : ℕ
  pub room : ℕ
  pub top : ℕ
  pub capacity : ℕ
  pub side_places : ℕ
  pub numbers : List ℕ → List ℕ

-- the card of settings: m = 2^p buckets, keys of the width, the bucket numbers of document 01
unfoldable pub card_of : Settings → Card
card_of t =
    record {
      width = t.width;
      buckets = 2 ^ t.p;
      room = t.room;
      top = t.top;
      capacity = t.capacity;
      side_places = t.side_places;
      numbers = λ key. numbers_of (2 ^ t.p) t.k (H key);
    }

module _ (s : Card) where
  -- a record: the key, then the class
  unfoldable pub record_size : ℕ
  record_size = s.width + class_width

  -- one bucket: a mark, then B record places
  unfoldable pub bucket_size : ℕ
  bucket_size = 1 + record_size * s.room

  -- the lengths of the areas; true counts and work count 16-bit numbers, the others bytes
  unfoldable pub ledger_length : ℕ
  ledger_length = 2 + record_size * s.capacity

  unfoldable pub true_length : ℕ
  true_length = s.buckets

  unfoldable pub clipped_length : ℕ
  clipped_length = s.buckets / 2

  unfoldable pub buckets_length : ℕ
  buckets_length = s.buckets * bucket_size

  unfoldable pub side_length : ℕ
  side_length = 2 + record_size * s.side_places

  unfoldable pub work_length : ℕ
  work_length = 2 * s.buckets

-- the settings that a caller lends: seven numbers in their order. Of another length they are zeros, which are out of range: "1, a setting out of range"
unfoldable pub settings_in : List ℕ → Settings
settings_in l =
    cond (eqb (length l) 7) (settings_of (get_or l 0 0) (get_or l 1 0) (get_or l 2 0) (get_or l 3 0) (get_or l 4 0) (get_or l 5 0) (get_or l 6 0))
    (settings_of 0 0 0 0 0 0 0)
