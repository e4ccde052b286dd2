-- Laws of the edits: the list that one makes lies in three areas in a row, and its refusal is the plain ledger's.
use mathlib.Core.Path.{◌≡◌, refl, sym, ◌∙◌}
use mathlib.Core.Bool.{false, cond}
use mathlib.Core.List.{List, [], ◌∷◌, append-nil}
use Prim.Native.Nat.{ℕ, zero, suc, ◌+◌, ◌-◌, ◌*◌, ◌≤◌}
use native.Mathlib.Nat.{zero-mul, suc-mul, add_comm, add-mul, mul-le-mul_right}
use native.Mathlib.Omega.{arith}
use lib.Dec.{leb, eqb}
use lib.ListN.{length, take, drop, length-drop}
use lib.Seq.{drop-drop}
use Rattle.theory.specs.Records.{Record, entries, records, record_bytes}
use Rattle.theory.specs.Settings.{Settings, Card, card_of, record_size}
use Rattle.theory.specs.Ledger.{held, key_wrong, side_short, next, refusal}
use Rattle.theory.proofs.ListLaws.{by_test}
use Rattle.theory.proofs.ByteLaws.{Fit, read_records}
use Rattle.placing.specs.Worked.{parts, held as holds}
use Rattle.placing.proofs.PartLaws.{held_front, part_records}
use Rattle.update.specs.declared.editing.Edit.{Edit}
use Rattle.update.specs.declared.editing.Edit.TheVariants.{Insert, Replace, Remove}
use Rattle.update.specs.Editing.{edit_call, edited, brings, leaves_out, by_list}

pub brings_most : (edit : Edit) → brings edit ≤ 1
brings_most Insert = omega arith
brings_most Replace = omega arith
brings_most Remove = omega arith

-- ---- records of a part
module _ (w : ℕ) where
  records_take : (i n : ℕ) (a : List ℕ) → i ≤ n → records w i a ≡ take i (records w n a)
  unfolding records entries
  records_take zero n a h = refl
  records_take (suc i) zero a h = absurd (omega arith)
  records_take (suc i) (suc n) a h = rw (records_take i n (drop (w + 4) a) (omega arith))

  records_drop : (i n : ℕ) (a : List ℕ) → i ≤ n → records w (n - i) (drop (i * (w + 4)) a) ≡ drop i (records w n a)
  unfolding records entries
  records_drop zero n a h = let e : n - 0 ≡ n = omega arith in rw (zero-mul, e)
  records_drop (suc i) zero a h = absurd (omega arith)
  records_drop (suc i) (suc n) a h =
      let e : suc n - suc i ≡ n - i = omega arith in
      rw (e, suc-mul, add_comm (i * (w + 4)) (w + 4), ← drop-drop (i * (w + 4)) (w + 4) a) (records_drop i n (drop (w + 4) a) (omega arith))

  records_one : (x : Record) → Fit w x → records w 1 (record_bytes x) ≡ x ∷ []
  records_one x f = let e = read_records w (x ∷ []) [] (f, tt) in rw (append-nil, append-nil) at e

  -- ---- the list that an edit makes of n records, in three areas
  parts_edited : (edit : Edit) (at n : ℕ) (a rec : List ℕ) (x : Record) → at + leaves_out edit ≤ n → record_bytes x ≡ rec → Fit w x
      → parts w a at rec (brings edit) (drop ((at + leaves_out edit) * (w + 4)) a) (n - (at + leaves_out edit)) ≡ edited edit at x (records w n a)
  parts_edited edit at n a rec x h e f =
      let new : records w (brings edit) rec ≡ take (brings edit) (x ∷ []) = records_take (brings edit) 1 rec (brings_most edit) ∙ rw (← e, records_one x f) in
      rw (new, records_take at n a (omega arith), records_drop (at + leaves_out edit) n a h)

-- ---- refusals of the list: by whether the key is held and how many flows are, then 9
pub refusal_is : (t : Settings) (edit : Edit) (k : List ℕ) (x : ℕ) (l : List Record) → key_wrong (card_of t) k ≡ false
    → refusal (card_of t) (edit_call edit k x) l
    ≡ cond (eqb (by_list t edit (held k l) (length l)) 0) (cond (side_short (card_of t) (next (card_of t) (edit_call edit k x) l)) 9 0)
    (by_list t edit (held k l) (length l))
unfolding refusal card_of
refusal_is t Insert k x l e =
    rw e (by_test (held k l) (λ h. rw h) (λ h. rw h (by_test (leb t.capacity (length l)) (λ c. rw c) (λ c. rw c))))
refusal_is t Replace k x l e = rw e (by_test (held k l) (λ h. rw h) (λ h. rw h))
refusal_is t Remove k x l e = rw e (by_test (held k l) (λ h. rw h) (λ h. rw h))

-- ---- the three parts as they are lent: the records before the place, the call's record, and the records after it
pub size_is : (c : Card) → record_size c ≡ c.width + 4
unfolding record_size
size_is c = refl

-- an edit at a place among n records of a ledger area, in the code's numbers: it leaves out lo records and brings k, and a record has z bytes
pub record Around (w : ℕ) (edit : Edit) (at n : ℕ) (a rec : List ℕ) (lo k z : ℕ) : Type 0 where
  pub fits : at + leaves_out edit ≤ n
  pub room : 2 + n * (w + 4) ≤ length a
  pub wide : length rec ≡ w + 4
  pub left : lo ≡ leaves_out edit
  pub brought : k ≡ brings edit
  pub size : z ≡ w + 4

module _ {w : ℕ} {edit : Edit} {at n : ℕ} {a rec : List ℕ} {lo k z : ℕ} (p : Around w edit at n a rec lo k z) where
  from_within : at + lo ≤ n
  from_within = rw p.left p.fits

  pub last_within : 2 + n * z ≤ length a
  last_within = rw p.size p.room

  pub first_within : 2 + at * z ≤ 2 + n * z
  first_within = let before : at ≤ n = omega (arith, p.fits) in omega (arith, mul-le-mul_right z before)

  pub after_within : 2 + (at + lo) * z ≤ 2 + n * z
  after_within = omega (arith, mul-le-mul_right z from_within)

  pub mid_within : k * z ≤ length rec
  mid_within =
      let one : k ≤ 1 = omega (arith, p.brought, brings_most edit) in
      omega (arith, mul-le-mul_right {m = k} {n = 1} z one, p.wide, p.size)

  abbrev pub before : List ℕ
  before = take (2 + at * z - 2) (drop 2 a)

  abbrev pub between : List ℕ
  between = take (k * z) rec

  abbrev pub after : List ℕ
  after = take (2 + n * z - (2 + (at + lo) * z)) (drop (2 + (at + lo) * z) a)

  -- each is the first records of what is lent
  before_is : before ≡ take (at * (w + 4)) (drop 2 a)
  before_is = let size : 2 + at * z - 2 ≡ at * (w + 4) = rw p.size (omega arith) in rw size

  between_is : between ≡ take (k * (w + 4)) rec
  between_is = rw p.size

  after_is : after ≡ take ((n - (at + lo)) * (w + 4)) (drop (2 + (at + lo) * z) a)
  after_is =
      let all : n - (at + lo) + (at + lo) ≡ n = omega (arith, from_within) in
      let split : (n - (at + lo)) * z + (at + lo) * z ≡ n * z = sym (add-mul (n - (at + lo)) (at + lo) z) ∙ rw all in
      let size : 2 + n * z - (2 + (at + lo) * z) ≡ (n - (at + lo)) * z = omega (arith, split) in
      rw size (rw p.size)

  before_room : at * (w + 4) ≤ length (drop 2 a)
  before_room = rw (length-drop, ← p.size) (omega (arith, first_within, last_within))

  between_room : k * (w + 4) ≤ length rec
  between_room = rw (← p.size) mid_within

  after_room : (n - (at + lo)) * (w + 4) ≤ length (drop (2 + (at + lo) * z) a)
  after_room =
      let all : n - (at + lo) + (at + lo) ≡ n = omega (arith, from_within) in
      let split : (n - (at + lo)) * z + (at + lo) * z ≡ n * z = sym (add-mul (n - (at + lo)) (at + lo) z) ∙ rw all in
      rw (length-drop, ← p.size) (omega (arith, split, last_within))

  -- how many records they hold, all together
  pub all_held : holds w before + holds w between + holds w after ≡ n - leaves_out edit + brings edit
  all_held =
      rw (
        before_is,
        between_is,
        after_is,
        held_front w at (drop 2 a) before_room,
        held_front w k rec between_room,
        held_front w (n - (at + lo)) (drop (2 + (at + lo) * z) a) after_room,
      )
      (omega (arith, p.left, p.brought, p.fits))

  pub new_list : (x : Record) → record_bytes x ≡ rec → Fit w x
      → parts w before (holds w before) between (holds w between) after (holds w after) ≡ edited edit at x (records w n (drop 2 a))
  new_list x e f =
      let rest : drop (2 + (at + lo) * z) a ≡ drop ((at + leaves_out edit) * (w + 4)) (drop 2 a) =
      sym (drop-drop ((at + lo) * z) 2 a) ∙ rw (p.left, p.size) in
      let many : n - (at + lo) ≡ n - (at + leaves_out edit) = rw p.left in
      rw (
        part_records w at (drop 2 a) before_room before before_is,
        part_records w k rec between_room between between_is,
        part_records w (n - (at + lo)) (drop (2 + (at + lo) * z) a) after_room after after_is,
        many,
        rest,
        p.brought,
      )
      (parts_edited w edit at n (drop 2 a) rec x p.fits e f)

  -- how many records the new list has
  pub total_is : at + k + (n - (at + lo)) ≡ n - leaves_out edit + brings edit
  total_is = omega (arith, p.brought, p.left, p.fits)
