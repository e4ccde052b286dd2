-- What the writers of the buckets ask: the bucket area with no record, with one record more, and with all of them. A record that belongs to the side leaves
-- the area as it is; another changes the part of the bucket that it chooses, and no other part.
use mathlib.Core.Path.{◌≡◌, refl, sym, ap, ◌∙◌}
use mathlib.Core.Bool.{Bool, true, false, cond, not, ◌&&◌}
use mathlib.Core.List.{List, [], ◌∷◌, ◌++◌, append_assoc, append-nil}
use Prim.Native.Nat.{ℕ, suc, ◌+◌, ◌-◌, ◌*◌, ◌<◌, ◌≤◌}
use native.Mathlib.Nat.{add-sub_cancel_left, zero-add, mul-add, mul-one, mul_comm, sub-zero}
use native.Mathlib.Omega.{arith}
use lib.Dec.{eqb, ltb}
use borrow.Author.Tests.{eqb-true, eq-eqb, ne_eqb, ltb-false}
use lib.ListN.{length, take, drop, get_or, set, length-append, length-set, length-replicate}
use lib.Seq.{take_at, drop_at}
use Rattle.theory.specs.Lists.{flat, upto}
use Rattle.theory.specs.Records.{Record, record_bytes, entries, record_at, records}
use Rattle.theory.specs.Settings.{Card, record_size, bucket_size, buckets_length}
use Rattle.theory.specs.Placing.{true_count, all_top, chosen, chooses, choosers, crowded, mark, bucket_records}
use Rattle.theory.specs.Layout.{places, bucket_bytes, buckets_bytes}
use Rattle.theory.proofs.ListLaws.{or_left, or_right, by_test, All, all_map, all_every, length_flat, length_upto, filter_all, piece}
use Rattle.theory.proofs.SettingsLaws.{Sound}
use Rattle.theory.proofs.ByteLaws.{Fit, length_record}
use Rattle.theory.proofs.LayoutLaws.{length_places}
use Rattle.theory.proofs.PlacingLaws.{chosen_below}
use Rattle.theory.proofs.GrowingLaws.{flat_append, flat_cong, flat_more, filter_mono, filter_append, records_more}
use Rattle.memory.proofs.SliceLaws.{back, length_lent, zeros, zeros_drop, take_back, lent_is, back_is, row_fits, flat_set}
use Rattle.placing.specs.declared.Placement.{Placement}
use Rattle.placing.specs.Worked.{nth, belongs_by, Placed, choice_by}
use Rattle.placing.proofs.WorkLaws.{counts_are}
use Rattle.writing.specs.Buckets.{crowded_by, blank_bucket, blank_buckets, growing_bucket, growing_buckets, placed, appended}
use Rattle.writing.proofs.TurnLaws.{Turn, turn_bytes, turn_record, turn_fit}

-- ---- record places, with one record more
less_one : (z n j : ℕ) → j < n → z * (n - j) - z ≡ z * (n - (j + 1))
less_one z n j h =
    let e : n - j ≡ (n - (j + 1)) + 1 = omega arith in
    let q : z * ((n - (j + 1)) + 1) ≡ z * (n - (j + 1)) + z = mul-add z (n - (j + 1)) 1 ∙ rw mul-one in rw (e, q) (omega arith)

module _ (s : Card) where
  pub places_more : (n : ℕ) (l : List Record) (r : Record) → All (Fit s.width) l → length l < n
      → back (record_size s * length l) (record_size s) (places s n l) (record_bytes r) ≡ places s n (l ++ (r ∷ []))
  unfolding places
  places_more n l r fit h =
      let k = record_size s * length l in
      let f : length (flat record_bytes l)
      ≡ k = unfold record_size in length_flat record_bytes (s.width + 4) l (all_map (λ r f. length_record s.width r f) l fit) in
      rw (take_at (flat record_bytes l) (zeros (record_size s * (n - length l))) k f)
      (rw (drop_at (flat record_bytes l) (zeros (record_size s * (n - length l))) k f, zeros_drop (record_size s * (n - length l)) (record_size s))
      (rw (less_one (record_size s) n (length l) h, flat_append record_bytes l (r ∷ []), length-append l (r ∷ []), append-nil (record_bytes r))
      (rw (append_assoc (flat record_bytes l) (record_bytes r) (zeros (record_size s * (n - (length l + 1))))))))

  module _ (crowd : ℕ → Bool) where
    -- ---- blank buckets
    blank_is : (b n : ℕ) (v : Bool) → n ≡ bucket_size s → v ≡ crowd b → set (zeros n) 0 (cond v 255 0) ≡ blank_bucket s crowd b
    unfolding blank_bucket places bucket_size
    blank_is b n v e f =
        let one : n ≡ suc (record_size s * (s.room - 0)) = rw sub-zero (omega arith) in rw (one, f)

    blank_more : (b : ℕ) → blank_buckets s crowd (b + 1) ≡ blank_buckets s crowd b ++ blank_bucket s crowd b
    unfolding blank_buckets
    blank_more b = flat_more (blank_bucket s crowd) b

    pub blank_none : [] ≡ blank_buckets s crowd 0
    unfolding blank_buckets
    blank_none = refl

    module _ (c : ℕ → ℕ) where
      pub growing_none : (w : ℕ) (a : List ℕ) → blank_buckets s crowd s.buckets ≡ growing_buckets s crowd c (records w 0 a)
      unfolding blank_buckets growing_buckets records entries blank_bucket growing_bucket choosers
      growing_none w a = flat_cong (blank_bucket s crowd) (growing_bucket s crowd c (records w 0 a)) (upto 0 s.buckets) (all_every same (upto 0 s.buckets))
        where
          same : (x : ℕ) → blank_bucket s crowd x ≡ growing_bucket s crowd c (records w 0 a) x
          same x = unfold blank_bucket growing_bucket records entries choosers in by_test (crowd x) (λ e. rw e) (λ e. rw e)

      growing_all : (l : List Record) → ((b : ℕ) → crowd b ≡ crowded s c l b) → growing_buckets s crowd c l ≡ buckets_bytes s c l
      unfolding growing_buckets buckets_bytes
      growing_all l e = flat_cong _ _ (upto 0 s.buckets) (all_every each (upto 0 s.buckets))
        where
          each : (x : ℕ) → growing_bucket s crowd c l x ≡ bucket_bytes s c l x
          each x = unfold growing_bucket bucket_bytes mark bucket_records in rw (e x) (by_test (crowded s c l x) (λ q. rw q) (λ q. rw q))

      growing_mark : (l : List Record) (b : ℕ) → crowd b ≡ false → get_or (growing_bucket s crowd c l b) 0 0 ≡ length (choosers s c l b)
      unfolding growing_bucket
      growing_mark l b e = rw e

      -- ---- one record more
      module _ (l : List Record) (r : Record) where
        abbrev b : ℕ
        b = chosen s c r.key

        abbrev more : List Record
        more = l ++ (r ∷ [])

        growing_keep : (x : ℕ) → chooses s c x r.key ≡ false → growing_bucket s crowd c l x ≡ growing_bucket s crowd c more x
        unfolding growing_bucket choosers
        growing_keep x e = rw (filter_append (λ q. chooses s c x q.key) l (r ∷ []), e, append-nil)

        growing_crowded : (x : ℕ) → crowd x ≡ true → growing_bucket s crowd c l x ≡ growing_bucket s crowd c more x
        unfolding growing_bucket
        growing_crowded x e = rw e

        choosers_add : all_top s c r.key ≡ false → choosers s c more b ≡ choosers s c l b ++ (r ∷ [])
        unfolding choosers chooses
        choosers_add out = rw (filter_append (λ q. chooses s c b q.key) l (r ∷ []), out, eq-eqb b b refl)

        -- a record that goes to the side leaves the buckets as they are
        stay_all_top : all_top s c r.key ≡ true → growing_buckets s crowd c l ≡ growing_buckets s crowd c more
        unfolding growing_buckets chooses
        stay_all_top e = flat_cong _ _ (upto 0 s.buckets) (all_every (λ x. growing_keep x (rw e)) (upto 0 s.buckets))

        stay_crowded : crowd b ≡ true → growing_buckets s crowd c l ≡ growing_buckets s crowd c more
        unfolding growing_buckets
        stay_crowded e = flat_cong _ _ (upto 0 s.buckets) (all_every each (upto 0 s.buckets))
          where
            and_no : (t : Bool) → (t && false) ≡ false
            and_no true = refl
            and_no false = refl

            each : (x : ℕ) → growing_bucket s crowd c l x ≡ growing_bucket s crowd c more x
            each x =
                by_test (eqb x b) (λ q. growing_crowded x (rw (eqb-true x b q) e))
                (λ q. growing_keep x (unfold chooses in rw q (and_no (not (all_top s c r.key)))))

      module _ (l : List Record) (fit : All (Fit s.width) l) (fits : (b : ℕ) → crowd b ≡ false → length (choosers s c l b) ≤ s.room) where
        choosers_fit : (b : ℕ) → All (Fit s.width) (choosers s c l b)
        unfolding choosers
        choosers_fit b = filter_all (Fit s.width) (λ r. chooses s c b r.key) l fit

        length_growing : (b : ℕ) → length (growing_bucket s crowd c l b) ≡ bucket_size s
        unfolding growing_bucket bucket_size
        length_growing b =
            by_test (crowd b) (λ e. rw (e, length_places s s.room [] tt (omega arith)) (omega arith))
            (λ e. rw (e, length_places s s.room (choosers s c l b) (choosers_fit b) (fits b e)) (omega arith))

        length_all_growing : length (growing_buckets s crowd c l) ≡ buckets_length s
        unfolding growing_buckets buckets_length
        length_all_growing =
            rw (length_flat (growing_bucket s crowd c l) (bucket_size s) (upto 0 s.buckets) (all_every length_growing (upto 0 s.buckets)))
            (rw (length_upto, mul_comm (bucket_size s) s.buckets))

        -- the part of bucket b
        growing_part : (b : ℕ) → b < s.buckets → take (bucket_size s) (drop (b * bucket_size s) (growing_buckets s crowd c l)) ≡ growing_bucket s crowd c l b
        unfolding growing_buckets
        growing_part b h = piece (growing_bucket s crowd c l) (bucket_size s) length_growing 0 s.buckets b h ∙ rw zero-add

        -- a record put into the bucket that it chooses
        module _ (r : Record) (out : all_top s c r.key ≡ false) (free : crowd (b l r) ≡ false) (room : length (choosers s c l (b l r)) < s.room) where
          put_here : growing_bucket s crowd c (more l r) (b l r)
              ≡ set (back (1 + record_size s * length (choosers s c l (b l r))) (record_size s) (growing_bucket s crowd c l (b l r)) (record_bytes r)) 0
              (length (choosers s c l (b l r)) + 1)
          unfolding growing_bucket
          put_here =
              let one : 1 + record_size s * length (choosers s c l (b l r)) ≡ suc (record_size s * length (choosers s c l (b l r))) = omega arith in
              rw (free, choosers_add l r out, one, length-append (choosers s c l (b l r)) (r ∷ []))
              (rw (← places_more s.room (choosers s c l (b l r)) r (choosers_fit (b l r)) room))

          put_among : b l r < s.buckets
              → back (b l r * bucket_size s) (bucket_size s) (growing_buckets s crowd c l) (growing_bucket s crowd c (more l r) (b l r))
              ≡ growing_buckets s crowd c (more l r)
          unfolding growing_buckets
          put_among h =
              rw (zero-add (b l r)) at
              (flat_set (growing_bucket s crowd c l) (growing_bucket s crowd c (more l r)) (bucket_size s) length_growing 0 s.buckets (b l r) h
              (λ x n. growing_keep l r x (unfold chooses in rw (out, ne_eqb x (b l r) (λ y. n (y ∙ sym (zero-add (b l r))))))))

-- ---- the next part opened, where `crowded` is the test of bucket b
module _ (s : Card) (crowd : ℕ → Bool) (b at size : ℕ) (area part : List ℕ) (crowded : Bool) (is_size : size ≡ bucket_size s) (fits : at + size ≤ length area)
    (test : crowded ≡ crowd b) (opened : part ≡ set (zeros (length (take (at + size - at) (drop at area)))) 0 (cond crowded 255 0)) where
  length_opened : length part ≡ size
  length_opened = ap length opened ∙ simp (length-set, length-replicate) (length_lent at size area fits)

  pub opened_more : take at area ≡ blank_buckets s crowd b → take (at + size) (back at (at + size - at) area part) ≡ blank_buckets s crowd (b + 1)
  opened_more before =
      let blank : part ≡ blank_bucket s crowd b = opened ∙ blank_is s crowd b _ crowded (length_lent at size area fits ∙ is_size) test in
      rw (add-sub_cancel_left at size, take_back at size area part fits length_opened, before, blank) (sym (blank_more s crowd b))

-- ---- the turn of record i, by what placing left behind
appended_is : (part bytes : List ℕ) (z k : ℕ) → length bytes ≡ z → get_or part 0 0 ≡ k → appended part bytes ≡ set (back (1 + z * k) z part bytes) 0 (k + 1)
appended_is part bytes z k e f = rw (e, f)

module _ {s : Card} {p : Placement} {n i : ℕ} {area : List ℕ} (ok : Sound s) (h : Turn s.width n i area) (g : Placed s (records s.width n area) p) where
  abbrev counts : ℕ → ℕ
  counts = nth p.counts.now

  abbrev crowd : ℕ → Bool
  crowd = crowded_by s p.choosers.now

  abbrev first : ℕ → List Record
  first k = records s.width k area

  abbrev this : Record
  this = record_at s.width (drop (i * (s.width + 4)) area)

  abbrev key : List ℕ
  key = take s.width (drop (i * (s.width + 4)) area)

  abbrev bytes : List ℕ
  bytes = take (s.width + 4) (drop (i * (s.width + 4)) area)

  next_one : first (i + 1) ≡ first i ++ (this ∷ [])
  next_one = records_more s.width i area

  choosers_is : (b : ℕ) → nth p.choosers.now b ≡ length (choosers s counts (first n) b)
  choosers_is b = g.choosers b ∙ ap (λ (c : ℕ → ℕ). length (choosers s c (first n) b)) (sym (counts_are g))

  fits_at : (k : ℕ) → k ≤ n → (b : ℕ) → crowd b ≡ false → length (choosers s counts (first k) b) ≤ s.room
  unfolding choosers
  fits_at k le b e =
      omega (arith, ltb-false s.room (nth p.choosers.now b) e, choosers_is b, filter_mono s.width (λ r. chooses s counts b r.key) k n area le)

  skip_all_top : all_top s counts key ≡ true → placed s p i area ≡ placed s p (i + 1) area
  unfolding record_at
  skip_all_top e = stay_all_top s crowd counts (first i) this e ∙ ap (growing_buckets s crowd counts) (sym next_one)

  skip_crowded : crowd (chosen s counts key) ≡ true → placed s p i area ≡ placed s p (i + 1) area
  unfolding record_at
  skip_crowded e = stay_crowded s crowd counts (first i) this e ∙ ap (growing_buckets s crowd counts) (sym next_one)

  -- a record that belongs to the side leaves the buckets as they are
  pub skip_side : belongs_by s counts (nth p.choosers.now) key ≡ true → placed s p i area ≡ placed s p (i + 1) area
  unfolding belongs_by
  skip_side e = by_test (all_top s counts key) skip_all_top (λ q. skip_crowded (rw q at e))

  length_placed : length (placed s p i area) ≡ buckets_length s
  length_placed = length_all_growing s crowd counts (first i) (turn_fit h i (omega arith)) (fits_at i (omega arith))

  length_bytes : length bytes ≡ record_size s
  unfolding record_size
  length_bytes = turn_bytes h

  -- another is put into the part of the bucket that it chooses
  module _ (stays : belongs_by s counts (nth p.choosers.now) key ≡ false) where
    abbrev here : ℕ
    here = chosen s counts key

    out : all_top s counts key ≡ false
    unfolding belongs_by
    out = or_left (all_top s counts key) (crowd here) stays

    free : crowd here ≡ false
    unfolding belongs_by
    free = or_right (all_top s counts key) (crowd here) stays

    choice_is : choice_by s counts key ≡ here
    unfolding choice_by
    choice_is = rw out

    abbrev part : List ℕ
    part = take (bucket_size s) (drop (here * bucket_size s) (placed s p i area))

    below : here < s.buckets
    below = chosen_below s ok counts key out

    -- its part lies within the area
    row : here * bucket_size s + bucket_size s ≤ length (placed s p i area)
    unfolding buckets_length
    row = rw length_placed (row_fits here s.buckets (bucket_size s) below)

    room : length (choosers s counts (first i) here) < s.room
    unfolding record_at
    room =
        let grown : length (choosers s counts (first (i + 1)) here) ≡ length (choosers s counts (first i) here) + 1 =
        ap (λ (l : List Record). length (choosers s counts l here)) next_one
        ∙ ap length (choosers_add s crowd counts (first i) this out) ∙ length-append (choosers s counts (first i) here) (this ∷ []) in
        omega (arith, fits_at (i + 1) (omega arith) here free)

    part_is : part ≡ growing_bucket s crowd counts (first i) here
    part_is = growing_part s crowd counts (first i) (turn_fit h i (omega arith)) (fits_at i (omega arith)) here below

    part_mark : get_or part 0 0 ≡ length (choosers s counts (first i) here)
    part_mark = ap (λ (l : List ℕ). get_or l 0 0) part_is ∙ growing_mark s crowd counts (first i) here free

    mark_low : get_or part 0 0 < s.room
    mark_low = omega (arith, part_mark, room)

    put : back (here * bucket_size s) (bucket_size s) (placed s p i area) (appended part bytes) ≡ placed s p (i + 1) area
    unfolding record_at
    put =
        let fit = turn_fit h i (omega arith) in
        let fits = fits_at i (omega arith) in
        let one : appended part bytes ≡ growing_bucket s crowd counts (first i ++ (this ∷ [])) here =
        appended_is part bytes (record_size s) (length (choosers s counts (first i) here)) length_bytes part_mark
        ∙ ap (λ (p : List ℕ). set (back (1 + record_size s * length (choosers s counts (first i) here)) (record_size s) p bytes) 0
        (length (choosers s counts (first i) here) + 1)) part_is
        ∙ ap (λ (p : List ℕ). set (back (1 + record_size s * length (choosers s counts (first i) here)) (record_size s)
        (growing_bucket s crowd counts (first i) here) p) 0 (length (choosers s counts (first i) here) + 1)) (sym (turn_record h))
        ∙ sym (put_here s crowd counts (first i) fit fits this out free room) in
        ap (back (here * bucket_size s) (bucket_size s) (placed s p i area)) one
        ∙ put_among s crowd counts (first i) fit fits this out free room below ∙ ap (growing_buckets s crowd counts) (sym next_one)

-- ---- the same in the code's numbers: row b of rows of z as it is lent; the chosen bucket's part lies in the area, its mark is low, and the area with one
-- record more
abbrev pub row_lent : ℕ → ℕ → List ℕ → List ℕ
row_lent b z xs = take (b * z + z - b * z) (drop (b * z) xs)

pub record ChosenPart (s : Card) (p : Placement) (i : ℕ) (area : List ℕ) (size part_size bucket : ℕ) (buckets : List ℕ) : Type 0 where
  pub within : bucket * part_size + part_size ≤ length buckets
  pub mark_low : get_or (row_lent bucket part_size buckets) 0 0 < s.room
  pub one_more : (ys : List ℕ) → ys ≡ appended (row_lent bucket part_size buckets) (take size (drop (i * size) area))
      → back (bucket * part_size) (bucket * part_size + part_size - bucket * part_size) buckets ys ≡ placed s p (i + 1) area

module _ {s : Card} {p : Placement} {n i : ℕ} {area : List ℕ} (ok : Sound s) (h : Turn s.width n i area) (g : Placed s (records s.width n area) p) where
  pub chosen_part : (size part_size bucket : ℕ) (buckets : List ℕ) → size ≡ s.width + 4 → part_size ≡ bucket_size s
      → buckets ≡ placed s p i area → bucket ≡ choice_by s (counts ok h g) (key ok h g)
      → belongs_by s (counts ok h g) (nth p.choosers.now) (key ok h g) ≡ false → ChosenPart s p i area size part_size bucket buckets
  chosen_part size part_size bucket buckets is_size is_part before is_choice stays =
      let start : bucket * part_size ≡ here ok h g stays * bucket_size s = rw (is_choice, choice_is ok h g stays, is_part) in
      let lent : row_lent bucket part_size buckets ≡ part ok h g stays =
      lent_is (bucket * part_size) _ part_size _ buckets (placed s p i area) start is_part before in
      let lent_record : take size (drop (i * size) area) ≡ bytes ok h g = rw is_size in
      record {
        within = rw (start, is_part, before) (row ok h g stays);
        mark_low = rw lent (mark_low ok h g stays);
        one_more = λ ys e.
            back_is (bucket * part_size) _ part_size _ buckets (placed s p i area) ys (appended (part ok h g stays) (bytes ok h g))
            start is_part before (e ∙ rw (lent, lent_record))
            ∙ put ok h g stays;
      }

-- every record placed: the buckets of the layout
pub placed_all : {s : Card} {p : Placement} (n : ℕ) (area : List ℕ) → Placed s (records s.width n area) p
    → placed s p n area ≡ buckets_bytes s (true_count s (records s.width n area)) (records s.width n area)
placed_all {s} {p} n area g =
    let l = records s.width n area in
    ap (λ (c : ℕ → ℕ). growing_buckets s (crowded_by s p.choosers.now) c l) (counts_are g)
    ∙ growing_all s (crowded_by s p.choosers.now) (true_count s l) l (λ b. unfold crowded in ap (ltb s.room) (g.choosers b))
