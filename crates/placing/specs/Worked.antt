-- What placing a list leaves behind, and the list that a call would make as it lies in memory.
use Rattle.std.specs.Prelude.{◌≡◌, Bool, false, cond, ◌||◌, Option, Some, None, List, ◌++◌, map, ℕ, ◌+◌, ◌/◌, eqb, ltb, length, take, drop, get_or}
use Rattle.theory.specs.Records.{class_width, Record, records}
use Rattle.theory.specs.Settings.{Card}
use Rattle.theory.specs.Placing.{true_count, all_top, chosen, choosers}
use Rattle.placing.specs.declared.Parts.{Parts}
use Rattle.placing.specs.declared.Placement.{Placement}

-- the number at place b, 0 past the end
abbrev pub nth : List ℕ → ℕ → ℕ
nth l b = get_or l b 0

-- a key belongs to the side, by counts c and by d, how many keys choose each bucket
unfoldable pub belongs_by : Card → (ℕ → ℕ) → (ℕ → ℕ) → List ℕ → Bool
belongs_by s c d k = all_top s c k || ltb s.room (d (chosen s c k))

-- a key's choice by counts c: the bucket that it chooses, or none where all its counts are T or more
unfoldable pub choice_of : Card → (ℕ → ℕ) → List ℕ → Option ℕ
choice_of s c k = cond (all_top s c k) None (Some (chosen s c k))

-- bucket b is the choice
abbrev pub is_choice : ℕ → Option ℕ → Bool
is_choice b None = false
is_choice b (Some x) = eqb b x

-- a key's choice by counts c, as one number: the bucket that it chooses or, where all its counts are T or more, the number of buckets
unfoldable pub choice_by : Card → (ℕ → ℕ) → List ℕ → ℕ
choice_by s c k = cond (all_top s c k) s.buckets (chosen s c k)

-- the choices of a list's records, one number a record
abbrev pub choices_by : Card → (ℕ → ℕ) → List Record → List ℕ
choices_by s c l = map (λ r. choice_by s c r.key) l

-- the records of l have chosen by these counts: the choosers are on top of the old ones, and the choices are kept
pub record Chose (s : Card) (counts : List ℕ) (l : List Record) (old new choices : List ℕ) : Type 0 where
  pub more : (b : ℕ) → nth new b ≡ nth old b + length (choosers s (nth counts) l b)
  pub kept : choices ≡ choices_by s (nth counts) l

-- the same from zeros
pub record ChoseParts (s : Card) (counts : List ℕ) (l : List Record) (new choices : List ℕ) : Type 0 where
  pub choosers : (b : ℕ) → nth new b ≡ length (choosers s (nth counts) l b)
  pub kept : choices ≡ choices_by s (nth counts) l

-- a list is placed: its true counts, how many keys choose each bucket, and the choice of each record
pub record Placed (s : Card) (l : List Record) (p : Placement) : Type 0 where
  pub counts_length : length p.counts.now ≡ s.buckets
  pub choosers_length : length p.choosers.now ≡ s.buckets
  pub counts : (b : ℕ) → nth p.counts.now b ≡ true_count s l b
  pub choosers : (b : ℕ) → nth p.choosers.now b ≡ length (choosers s (true_count s l) l b)
  pub choices : p.choices.now ≡ choices_by s (true_count s l) l

-- the same where it was lent: work has the true counts and then how many keys choose each bucket
pub record PlacedIn (s : Card) (l : List Record) (work kept : List ℕ) : Type 0 where
  pub counts : (b : ℕ) → nth (take s.buckets work) b ≡ true_count s l b
  pub choosers : (b : ℕ) → nth (drop s.buckets work) b ≡ length (choosers s (true_count s l) l b)
  pub choices : kept ≡ choices_by s (true_count s l) l

-- a key with this choice belongs to the side, where d is how many keys choose each bucket
abbrev pub side_by_choice : Card → (ℕ → ℕ) → ℕ → Bool
side_by_choice s d b = eqb b s.buckets || ltb s.room (d b)

-- the list that a call would make lies in three areas: n records before, k (the new record or none), j records after
abbrev pub parts : ℕ → List ℕ → ℕ → List ℕ → ℕ → List ℕ → ℕ → List Record
parts w a n mid k b j = records w n a ++ (records w k mid ++ records w j b)

-- how many whole records a part holds, and all three
abbrev pub held : ℕ → List ℕ → ℕ
held w a = length a / (w + class_width)

abbrev pub held_all : ℕ → Parts → ℕ
held_all w p = held w p.before.now + held w p.between.now + held w p.after.now

-- the list that lies in three parts
abbrev pub list_of : ℕ → Parts → List Record
list_of w p =
    parts w p.before.now (held w p.before.now) p.between.now (held w p.between.now) p.after.now (held w p.after.now)
