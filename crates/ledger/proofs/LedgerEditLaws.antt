-- The three edits. A ledger area within the rules is the ledger area of its records (`valid_is`): a count, the records before a place, those from it on, zeros.
-- So what the code moves, fills and counts is the ledger area of the new list.
use mathlib.Core.Path.{◌≡◌, refl, sym, ap, ◌∙◌}
use mathlib.Core.Bool.{false, not}
use mathlib.Core.List.{List, [], ◌∷◌, ◌++◌, append_assoc}
use Prim.Native.Nat.{ℕ, suc, ◌+◌, ◌-◌, ◌*◌, ◌≤◌, ◌<◌}
use native.Mathlib.Nat.{mul-suc, mul-sub, mul_comm, mul-le-mul_left}
use native.Mathlib.Numerals.{add-one}
use native.Mathlib.Omega.{arith}
use lib.Dec.{eqb}
use borrow.Author.Tests.{eqb-true, not-false}
use lib.ListN.{length, take, drop, get_or, length-append, length-drop, take-append-drop, replicate-append-replicate}
use lib.Seq.{take_at, drop_at, drop-drop, split_at, length-take-le}
use Rattle.theory.specs.Lists.{any, flat}
use Rattle.theory.specs.Records.{Record, to_bytes, count_of, record_bytes, records}
use Rattle.theory.specs.Settings.{Card, record_size, ledger_length}
use Rattle.theory.specs.Layout.{places, counted_places}
use Rattle.theory.specs.Calls.{ledger_records, ledger_invalid}
use Rattle.theory.proofs.ListLaws.{or_left, or_right, All, all_map, all_at, all_take, all_drop, length_flat}
use Rattle.theory.proofs.GrowingLaws.{flat_append}
use Rattle.theory.proofs.ByteLaws.{Byte, Fit, length_to_bytes, to_of_bytes, length_record, length_records, records_fit, write_records}
use Rattle.theory.proofs.CallLaws.{valid}
use Rattle.settings.specs.declared.Settings.{Settings}
use Rattle.settings.specs.Checked.{card}
use Rattle.memory.proofs.SliceLaws.{zeros, zeros_drop, back}
use Rattle.ledger.specs.Edits.{ValidLedger, list_in, area_of, inserted_at, removed_at, replaced_at, with_bytes, without_bytes}
use Rattle.ledger.proofs.RisingLaws.{no_record}
use Rattle.ledger.proofs.LedgerLaws.{has_count, room_for, records_room}

zeros_of : (l : List ℕ) → any (λ x. not (eqb x 0)) l ≡ false → l ≡ zeros (length l)
zeros_of [] e = refl
zeros_of (x ∷ xs) e =
    let first : x ≡ 0 = eqb-true x 0 (not-false (eqb x 0) (or_left _ _ e)) in
    rw first (ap (λ (l : List ℕ). 0 ∷ l) (zeros_of xs (or_right (not (eqb x 0)) _ e)))

-- ---- an area of a part before a place, and parts from it on
module _ (p : List ℕ) (from : ℕ) (start : length p ≡ from) where
  -- bytes put in at the place
  insert_parts : (q z new : List ℕ) (to : ℕ) → from + length q ≡ to → with_bytes from to new (p ++ (q ++ z)) ≡ p ++ (new ++ (q ++ drop (length new) z))
  insert_parts q z new to stop =
      let here : drop from (p ++ (q ++ z)) ≡ q ++ z = drop_at p (q ++ z) from start in
      let middle : take (to - from) (drop from (p ++ (q ++ z))) ≡ q = rw here (take_at q z (to - from) (omega arith)) in
      let past : drop to (p ++ (q ++ z)) ≡ z = rw (← stop, ← drop-drop (length q) from (p ++ (q ++ z)), here) (drop_at q z (length q) refl) in
      rw (take_at p (q ++ z) from start, middle, ← drop-drop (length new) to (p ++ (q ++ z)), past)

  -- with a record at the place: taken out, with zeros where the last one was
  module _ (r : List ℕ) (next : ℕ) (one : from + length r ≡ next) where
    past_record : (t : List ℕ) → drop next (p ++ (r ++ t)) ≡ t
    past_record t = rw (← one, ← drop-drop (length r) from (p ++ (r ++ t)), drop_at p (r ++ t) from start) (drop_at r t (length r) refl)

    remove_parts : (q z : List ℕ) (to : ℕ) → next + length q ≡ to → without_bytes from next to (p ++ (r ++ (q ++ z))) ≡ p ++ (q ++ (zeros (next - from) ++ z))
    remove_parts q z to stop =
        let past : drop to (p ++ (r ++ (q ++ z))) ≡ z =
        rw (← stop, ← drop-drop (length q) next (p ++ (r ++ (q ++ z))), past_record (q ++ z)) (drop_at q z (length q) refl) in
        rw (take_at p (r ++ (q ++ z)) from start, past_record (q ++ z), take_at q z (to - next) (omega arith), past)

    replace_parts : (t new : List ℕ) → back from (next - from) (p ++ (r ++ t)) new ≡ p ++ (new ++ t)
    replace_parts t new =
        let there : from + (next - from) ≡ next = omega arith in
        rw (take_at p (r ++ t) from start, drop-drop (next - from) from (p ++ (r ++ t)), there, past_record t)

-- ---- a ledger area within the rules
module _ (c : Card) (a : List ℕ) (whole : length a ≡ ledger_length c) (rules : ledger_invalid c a ≡ false) where
  pub few : count_of a ≤ c.capacity
  few = (valid c a rules).few

  pub listed : length (ledger_records c a) ≡ count_of a
  unfolding ledger_records
  listed = length_records c.width (count_of a) (drop 2 a)

  module _ (bytes : All Byte a) where
    pub records_fit_width : All (Fit c.width) (ledger_records c a)
    unfolding ledger_records
    records_fit_width = records_fit c.width (count_of a) (drop 2 a) (records_room c a whole (count_of a) few) (all_drop Byte 2 a bytes)

    zeros_after : drop (count_of a * (c.width + 4)) (drop 2 a) ≡ zeros (record_size c * (c.capacity - count_of a))
    unfolding ledger_length record_size
    zeros_after =
        let n = count_of a in
        let z = c.width + 4 in
        let swap : n * z ≡ z * n = mul_comm n z in
        let left : length (drop (2 + z * n) a) ≡ z * (c.capacity - n) = rw (length-drop, mul-sub) (omega (arith, whole)) in
        drop-drop (n * z) 2 a ∙ ap (λ (k : ℕ). drop (2 + k) a) swap ∙ zeros_of (drop (2 + z * n) a) (valid c a rules).clear_after ∙ ap zeros left

    valid_is : a ≡ counted_places c c.capacity (ledger_records c a)
    unfolding counted_places places ledger_records
    valid_is =
        let n = count_of a in
        let k = n * (c.width + 4) in
        let written : flat record_bytes (records c.width n (drop 2 a)) ≡ take k (drop 2 a) =
        write_records c.width n (drop 2 a) (records_room c a whole n few) (all_drop Byte 2 a bytes) in
        rw (length_records c.width n (drop 2 a), to_of_bytes a bytes 2 (has_count c a whole), written)
        (sym (take-append-drop 2 a) ∙ ap (λ (l : List ℕ). take 2 a ++ l) (sym (take-append-drop k (drop 2 a))
        ∙ ap (λ (l : List ℕ). take k (drop 2 a) ++ l) zeros_after))

-- ---- a place among its records: the count, and how many records stand before the place
pub record Place (s : Settings) (a : List ℕ) (n at : ℕ) : Type 0 where
  pub ledger : ValidLedger s a
  pub count : n ≡ count_of a
  pub within : at ≤ length (list_in s a)

pub placed : {s : Settings} {a : List ℕ} {n at : ℕ} → ValidLedger s a → n ≡ count_of a → at ≤ length (list_in s a) → Place s a n at
placed v count within = record { ledger = v; count = count; within = within }

pub standing : {s : Settings} {a : List ℕ} {n at : ℕ} → ValidLedger s a → n ≡ count_of a → at < length (list_in s a) → Place s a n at
standing v count within = record { ledger = v; count = count; within = omega arith }

abbrev size_in : Settings → ℕ
size_in s = record_size (card s)

abbrev bytes_in : List Record → List ℕ
bytes_in l = flat record_bytes l

-- the count and the records before a place, and the zeros after k records
abbrev front : Settings → List ℕ → ℕ → ℕ → List ℕ
front s a n at = to_bytes 2 n ++ bytes_in (take at (list_in s a))

abbrev free : Settings → ℕ → List ℕ
free s k = zeros (size_in s * ((card s).capacity - k))

module _ {s : Settings} {a : List ℕ} {n at : ℕ} (p : Place s a n at) where
  pub count_listed : n ≡ length (list_in s a)
  count_listed = p.count ∙ sym (listed (card s) a p.ledger.size p.ledger.rules)

  pub few_here : n ≤ (card s).capacity
  few_here = rw p.count (few (card s) a p.ledger.size p.ledger.rules)

  pub place_listed : at ≤ (card s).capacity
  place_listed = omega (arith, few_here, count_listed, p.within)

  -- ---- where the place, the next one and the last one end lie
  pub place_before_end : size_in s * at ≤ size_in s * n
  place_before_end = mul-le-mul_left (size_in s) (omega (arith, p.within, count_listed))

  pub next_before_end : at < length (list_in s a) → size_in s * at + size_in s ≤ size_in s * n
  next_before_end h = let le : suc at ≤ n = omega (arith, count_listed) in omega (arith, mul-suc (size_in s) at, mul-le-mul_left (size_in s) le)

  pub end_inside : 2 + size_in s * n ≤ length a
  end_inside = room_for (card s) a p.ledger.size n few_here

  -- room for one more
  pub insert_room : length (list_in s a) < (card s).capacity → 2 + size_in s * n + size_in s ≤ length a
  insert_room h =
      let room : 2 + size_in s * suc n ≤ length a = room_for (card s) a p.ledger.size (suc n) (omega (arith, count_listed)) in
      omega (arith, mul-suc (size_in s) n)

  -- ---- areas in parts
  module _ (bytes : All Byte a) where
    fit : All (Fit (card s).width) (list_in s a)
    fit = records_fit_width (card s) a p.ledger.size p.ledger.rules bytes

    flat_size : (m : List Record) → All (Fit (card s).width) m → length (bytes_in m) ≡ size_in s * length m
    unfolding record_size
    flat_size m f = length_flat record_bytes ((card s).width + 4) m (all_map (λ r g. length_record (card s).width r g) m f)

    front_size : length (front s a n at) ≡ 2 + size_in s * at
    front_size =
        let fits = all_take (Fit (card s).width) at (list_in s a) fit in
        rw (length-append, length_to_bytes, flat_size (take at (list_in s a)) fits, length-take-le at (list_in s a) p.within)

    rest_size : (i : ℕ) → length (bytes_in (drop i (list_in s a))) ≡ size_in s * n - size_in s * i
    rest_size i = rw (flat_size (drop i (list_in s a)) (all_drop (Fit (card s).width) i (list_in s a) fit), length-drop, mul-sub, ← count_listed)

    list_parts : (l u m : List Record) (k : ℕ) → l ≡ u ++ m → k ≡ length l → area_of s l ≡ (to_bytes 2 k ++ bytes_in u) ++ (bytes_in m ++ free s k)
    unfolding counted_places places
    list_parts l u m k e f = rw (← f, e, flat_append record_bytes u m) (simp append_assoc)

    area_parts : (m : List Record) → list_in s a ≡ take at (list_in s a) ++ m → a ≡ front s a n at ++ (bytes_in m ++ free s n)
    area_parts m e = valid_is (card s) a p.ledger.size p.ledger.rules bytes ∙ list_parts (list_in s a) (take at (list_in s a)) m n e count_listed

    recounted : (m : List Record) (k : ℕ) → k ≡ length (take at (list_in s a) ++ m)
        → to_bytes 2 k ++ drop 2 (front s a n at ++ (bytes_in m ++ free s k)) ≡ area_of s (take at (list_in s a) ++ m)
    recounted m k e =
        let before : List ℕ = bytes_in (take at (list_in s a)) in
        let rest : List ℕ = bytes_in m ++ free s k in
        rw (append_assoc (to_bytes 2 n) before rest, drop_at (to_bytes 2 n) (before ++ rest) 2 (length_to_bytes 2 n), ← append_assoc (to_bytes 2 k) before rest)
        (sym (list_parts (take at (list_in s a) ++ m) (take at (list_in s a)) m k refl e))

    spare : (k j : ℕ) → k + 1 ≡ j → j ≤ (card s).capacity → size_in s * ((card s).capacity - k) ≡ size_in s + size_in s * ((card s).capacity - j)
    spare k j e h = let step : (card s).capacity - k ≡ suc ((card s).capacity - j) = omega arith in rw (step, mul-suc) (omega arith)

    -- ---- the edits, as the code makes them, where the places start at bytes of its numbers
    pub insert_written : length (list_in s a) < (card s).capacity → (from to : ℕ) → from ≡ 2 + size_in s * at → to ≡ 2 + size_in s * n
        → (y b : List ℕ) → length y ≡ size_in s → b ≡ with_bytes from to y a → (x : Record) → record_bytes x ≡ y
        → to_bytes 2 (n + 1) ++ drop 2 b ≡ area_of s (inserted_at at x (list_in s a))
    insert_written less from to start stop y b wide made_b x is_x =
        let l : List Record = list_in s a in
        let after : List ℕ = bytes_in (drop at l) in
        let room = spare n (n + 1) refl (omega (arith, count_listed)) in
        let fewer : size_in s * ((card s).capacity - n) - size_in s ≡ size_in s * ((card s).capacity - (n + 1)) = omega arith in
        let left : drop (length y) (free s n) ≡ free s (n + 1) = rw (wide, zeros_drop, fewer) in
        let longer : n + 1 ≡ length (inserted_at at x l) =
        rw (length-append, length-take-le at l p.within, length-drop) (omega (arith, count_listed, p.within)) in
        let made : with_bytes from to y a ≡ front s a n at ++ (y ++ (after ++ drop (length y) (free s n))) =
        ap (with_bytes from to y) (area_parts (drop at l) (sym (take-append-drop at l)))
        ∙ insert_parts (front s a n at) from (front_size ∙ sym start) after (free s n) y to (omega (arith, rest_size at, place_before_end)) in
        rw (made_b, made, left, ← append_assoc y after, ← is_x) (recounted (x ∷ drop at l) (n + 1) longer)

    module _ (h : at < length (list_in s a)) where
      old_size : length (record_bytes (get_or (list_in s a) at no_record)) ≡ size_in s
      unfolding record_size
      old_size = length_record (card s).width (get_or (list_in s a) at no_record) (all_at (Fit (card s).width) (list_in s a) at no_record h fit)

      record_is : a ≡ front s a n at ++ (record_bytes (get_or (list_in s a) at no_record) ++ (bytes_in (drop (at + 1) (list_in s a)) ++ free s n))
      record_is =
          let l : List Record = list_in s a in
          area_parts (get_or l at no_record ∷ drop (at + 1) l) (rw add-one (split_at l at no_record h))
          ∙ rw (append_assoc (record_bytes (get_or l at no_record)) (bytes_in (drop (at + 1) l)))

      pub remove_written : (from next to : ℕ) → from ≡ 2 + size_in s * at → next ≡ 2 + size_in s * (at + 1) → to ≡ 2 + size_in s * n
          → (b : List ℕ) → b ≡ without_bytes from next to a → to_bytes 2 (n - 1) ++ drop 2 b ≡ area_of s (removed_at at (list_in s a))
      remove_written from next to start then stop b made_b =
          let l : List Record = list_in s a in
          let after : List ℕ = bytes_in (drop (at + 1) l) in
          let step : size_in s * (at + 1) ≡ size_in s * at + size_in s = rw (add-one, mul-suc) in
          let room = spare (n - 1) n (omega (arith, count_listed)) few_here in
          let gap : next - from ≡ size_in s = omega arith in
          let more : zeros (next - from) ++ free s n ≡ free s (n - 1) = rw (gap, room) (replicate-append-replicate (size_in s) (size_in s * ((card s).capacity - n)) 0) in
          let shorter : n - 1 ≡ length (removed_at at l) = rw (length-append, length-take-le at l p.within, length-drop) (omega (arith, count_listed)) in
          let made : without_bytes from next to a ≡ front s a n at ++ (after ++ (zeros (next - from) ++ free s n)) =
          ap (without_bytes from next to) record_is
          ∙ remove_parts (front s a n at) from (front_size ∙ sym start) (record_bytes (get_or l at no_record)) next (omega (arith, old_size)) after (free s n) to
          (omega (arith, rest_size (at + 1), next_before_end h)) in
          rw (made_b, made, more) (recounted (drop (at + 1) l) (n - 1) shorter)

      pub replace_written : (from : ℕ) → from ≡ 2 + size_in s * at → (y b : List ℕ) → length y ≡ size_in s → b ≡ y → (x : Record) → record_bytes x ≡ y
          → back from (from + length y - from) a b ≡ area_of s (replaced_at at x (list_in s a))
      replace_written from start y b wide same_b x is_x =
          let l : List Record = list_in s a in
          let after : List ℕ = bytes_in (drop (at + 1) l) in
          let same : n ≡ length (replaced_at at x l) = rw (length-append, length-take-le at l p.within, length-drop) (omega (arith, count_listed)) in
          rw same_b (ap (λ (b : List ℕ). back from (from + length y - from) b y) record_is
          ∙ replace_parts (front s a n at) from (front_size ∙ sym start) (record_bytes (get_or l at no_record)) (from + length y) (omega (arith, old_size)) (after ++ free s n) y
          ∙ sym (list_parts (replaced_at at x l) (take at l) (x ∷ drop (at + 1) l) n refl same ∙ rw (is_x, append_assoc y after)))
