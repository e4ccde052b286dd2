-- Document 01, 'The calls' and 'Who brings on a refusal': the seven calls on areas with any contents and any lengths, and lists of calls.
use Rattle.std.specs.Prelude.{Bool, true, false, cond, not, ◌&&◌, ◌||◌, List, [], ◌∷◌, map, ℕ, ◌+◌, ◌*◌, ltb, eqb, length, drop, get_or}
use Rattle.theory.specs.Lists.{any, all, upto}
use Rattle.theory.specs.Records.{Record, count_of, records, rising}
use Rattle.theory.specs.Settings.{Settings, allowed, Card, card_of, record_size, ledger_length, true_length, clipped_length, buckets_length, side_length}
use Rattle.theory.specs.Settings.{work_length}
use Rattle.theory.specs.Layout.{Areas, layout}
use Rattle.theory.specs.Lookup.{bare, counter, bucket_part, search_areas, fetch_areas}
use Rattle.theory.specs.Ledger.{Call, clear, add, change, remove, search, fetch, tally, Totals, no_totals, Reply, answered, handed, totalled, Step}
use Rattle.theory.specs.Ledger.{key_wrong, next, refusal, counted_totals, plain}

-- the number, class, buckets read and records compared of what comes back; fetch hands back a part alone
abbrev pub reply_number : Reply → ℕ
reply_number (answered x) = x.number
reply_number (handed p) = 0
reply_number (totalled x) = x.number

abbrev pub reply_class : Reply → ℕ
reply_class (answered x) = x.class
reply_class (handed p) = 0
reply_class (totalled x) = 0

abbrev pub reply_buckets_read : Reply → ℕ
reply_buckets_read (answered x) = x.buckets_read
reply_buckets_read (handed p) = 0
reply_buckets_read (totalled x) = 0

abbrev pub reply_compared : Reply → ℕ
reply_compared (answered x) = x.records_compared
reply_compared (handed p) = 0
reply_compared (totalled x) = 0

-- a refused call: the number with class and counts zero, of fetch only the empty part
abbrev pub refused_reply : Call → ℕ → Reply
refused_reply clear n = answered (bare n)
refused_reply (add k x) n = answered (bare n)
refused_reply (change k x) n = answered (bare n)
refused_reply (remove k) n = answered (bare n)
refused_reply (search k) n = answered (bare n)
refused_reply (fetch k) n = handed []
refused_reply tally n = totalled (no_totals n)

-- a refused call alters nothing but work
abbrev pub stopped : Reply → Areas → Step Areas
stopped r a = record { reply = r; state = a }

module _ (s : Card) where
  -- ---- the ledger area: its records; 4: count above N, keys not rising, or a nonzero byte after the last record
  unfoldable pub ledger_records : List ℕ → List Record
  ledger_records a = records s.width (count_of a) (drop 2 a)

  unfoldable pub ledger_invalid : List ℕ → Bool
  ledger_invalid a =
      ltb s.capacity (count_of a) || not (rising (ledger_records a)) || any (λ x. not (eqb x 0)) (drop (2 + record_size s * count_of a) a)

  -- ---- add, change and remove read the ledger area alone, and when accepted write the layout of the new list to every area
  unfoldable pub update : List ℕ → Call → Areas → Step Areas
  update k c a =
      let l = ledger_records a.ledger in
      cond (key_wrong s k) (stopped (answered (bare 3)) a)
      (cond (ledger_invalid a.ledger) (stopped (answered (bare 4)) a)
      (cond (eqb (refusal s c l) 0) (record { reply = answered (bare 0); state = layout s (next s c l) }) (stopped (answered (bare (refusal s c l))) a)))

  -- ---- tally reads the ledger and all three lookup areas; 5: a clipped count above T, a mark above B other than 255, a side count above S
  unfoldable pub marks : List ℕ → List ℕ
  marks buckets = map (λ b. get_or (bucket_part s buckets b) 0 0) (upto 0 s.buckets)

  unfoldable pub lookup_invalid : Areas → Bool
  lookup_invalid a =
      any (λ b. ltb s.top (counter a.clipped_counts b)) (upto 0 s.buckets)
      || any (λ x. ltb s.room x && not (eqb x 255)) (marks a.buckets)
      || ltb s.side_places (count_of a.side_store)

  unfoldable pub tally_areas : Areas → Totals
  tally_areas a =
      cond (ledger_invalid a.ledger) (no_totals 4)
      (cond (lookup_invalid a) (no_totals 5) (counted_totals (marks a.buckets) (count_of a.side_store) (count_of a.ledger) s.buckets))

  -- ---- a call on areas of the right lengths
  unfoldable pub call : Call → Areas → Step Areas
  call clear a = record { reply = answered (bare 0); state = layout s [] }
  call (add k x) a = update k (add k x) a
  call (change k x) a = update k (change k x) a
  call (remove k) a = update k (remove k) a
  call (search k) a =
      record { reply = answered (cond (key_wrong s k) (bare 3) (search_areas s a.clipped_counts a.buckets a.side_store k)); state = a }
  call (fetch k) a =
      record { reply = handed (cond (key_wrong s k) [] (fetch_areas s a.clipped_counts a.buckets a.side_store k)); state = a }
  call tally a = record { reply = totalled (tally_areas a); state = a }

  -- ---- 2: the areas that a call is lent, and a work area of w numbers where it takes one, have their lengths
  unfoldable pub lookup_lengths : Areas → List Bool
  lookup_lengths a =
      eqb (length a.clipped_counts) (clipped_length s) ∷ eqb (length a.buckets) (buckets_length s) ∷ eqb (length a.side_store) (side_length s) ∷ []

  unfoldable pub all_lengths : Areas → List Bool
  all_lengths a = eqb (length a.ledger) (ledger_length s) ∷ eqb (length a.true_counts) (true_length s) ∷ lookup_lengths a

  unfoldable pub lent_lengths : ℕ → Call → Areas → List Bool
  lent_lengths w clear a = all_lengths a
  lent_lengths w (add k x) a = eqb w (work_length s) ∷ all_lengths a
  lent_lengths w (change k x) a = eqb w (work_length s) ∷ all_lengths a
  lent_lengths w (remove k) a = eqb w (work_length s) ∷ all_lengths a
  lent_lengths w (search k) a = lookup_lengths a
  lent_lengths w (fetch k) a = lookup_lengths a
  lent_lengths w tally a = eqb (length a.ledger) (ledger_length s) ∷ lookup_lengths a

-- search and fetch are lent the lookup areas, tally the ledger besides; areas that a call is not lent stand empty, and a call that takes no work area has none
abbrev pub lent_areas : Call → Areas → Areas
lent_areas clear a = a
lent_areas (add k x) a = a
lent_areas (change k x) a = a
lent_areas (remove k) a = a
lent_areas (search k) a = record { ledger = []; true_counts = []; clipped_counts = a.clipped_counts; buckets = a.buckets; side_store = a.side_store }
lent_areas (fetch k) a = record { ledger = []; true_counts = []; clipped_counts = a.clipped_counts; buckets = a.buckets; side_store = a.side_store }
lent_areas tally a = record { ledger = a.ledger; true_counts = []; clipped_counts = a.clipped_counts; buckets = a.buckets; side_store = a.side_store }

abbrev pub lent_work : Call → ℕ → ℕ
lent_work clear w = 0
lent_work (add k x) w = w
lent_work (change k x) w = w
lent_work (remove k) w = w
lent_work (search k) w = 0
lent_work (fetch k) w = 0
lent_work tally w = 0

-- the calls that only read
abbrev pub only_reads : Call → Bool
only_reads clear = false
only_reads (add k x) = false
only_reads (change k x) = false
only_reads (remove k) = false
only_reads (search k) = true
only_reads (fetch k) = true
only_reads tally = true

-- a call under any settings, on areas of any lengths and contents, with a work area of w numbers of any contents: 1, then 2, then the call
unfoldable pub perform : Settings → ℕ → Call → Areas → Step Areas
perform t w c a =
    cond (not (allowed t)) (stopped (refused_reply c 1) a)
    (cond (not (all (λ x. x) (lent_lengths (card_of t) w c a))) (stopped (refused_reply c 2) a) (call (card_of t) c a))

-- ---- a list of calls: what comes back of each, with the areas after it; each call gets the areas as the last one left them
unfoldable pub run : Settings → ℕ → List Call → Areas → List (Step Areas)
run t w [] a = []
run t w (c ∷ cs) a = perform t w c a ∷ run t w cs (perform t w c a).state

unfoldable pub areas_after : Settings → ℕ → List Call → Areas → Areas
areas_after t w [] a = a
areas_after t w (c ∷ cs) a = areas_after t w cs (perform t w c a).state

-- the state of the last of these steps, from state a
abbrev pub last_state : {X : Type 0} → X → List (Step X) → X
last_state a [] = a
last_state a (x ∷ xs) = last_state x.state xs

-- the plain ledger's, each list shown as its layout
abbrev pub shown : Card → Step (List Record) → Step Areas
shown s x = record { reply = x.reply; state = layout s x.state }

unfoldable pub run_plain : Card → List Call → List Record → List (Step Areas)
run_plain s [] l = []
run_plain s (c ∷ cs) l = shown s (plain s c l) ∷ run_plain s cs (plain s c l).state

unfoldable pub list_after : Card → List Call → List Record → List Record
list_after s [] l = l
list_after s (c ∷ cs) l = list_after s cs (plain s c l).state
