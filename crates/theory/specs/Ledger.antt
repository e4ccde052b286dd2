-- Document 01, 'The plain ledger': a list of records in rising key order, and what each call makes of it. It is fed the settings and, of each call, the kind,
-- the key and the class; it never sees an area.
use Rattle.std.specs.Prelude.{Bool, cond, not, List, [], ◌∷◌, map, ℕ, ◌+◌, ◌*◌, ◌/◌, ◌%◌, leb, ltb, eqb, length}
use Rattle.std.proofs.Math.Option.{Option}
use Rattle.theory.specs.Lists.{filter, any, all, upto, sum}
use Rattle.theory.specs.Records.{Record, same_key, key_below, find, comparisons}
use Rattle.theory.specs.Settings.{Card}
use Rattle.theory.specs.Placing.{clip, true_count, chosen, mark, bucket_records, side_records, side_need}
use Rattle.theory.specs.Lookup.{Answer, bare, answer, part}

-- a call: its kind, its key, its class; fetch is the second search call
pub data Call : Type 0 where
  clear : Call
  add : List ℕ → ℕ → Call
  change : List ℕ → ℕ → Call
  remove : List ℕ → Call
  search : List ℕ → Call
  fetch : List ℕ → Call
  tally : Call

-- tally's answer: its number, records in buckets, records in the side store, buckets marked 255, fill
pub record Totals : Type 0 where
  pub number : ℕ
  pub in_buckets : ℕ
  pub in_side : ℕ
  pub marked_255 : ℕ
  pub fill : ℕ

abbrev pub no_totals : ℕ → Totals
no_totals n = record { number = n; in_buckets = 0; in_side = 0; marked_255 = 0; fill = 0 }

-- what comes back: an answer; the part that fetch hands back; tally's totals
pub data Reply : Type 0 where
  answered : Answer → Reply
  handed : List ℕ → Reply
  totalled : Totals → Reply

-- what comes back, and the state after the call
pub record Step (X : Type 0) : Type 0 where
  pub reply : Reply
  pub state : X

-- ---- the list: held; a record put in at its key's place; the record of a key with a new class; the record of a key taken out
unfoldable pub held : List ℕ → List Record → Bool
held k l = any (λ r. same_key k r.key) l

abbrev pub insert : Record → List Record → List Record
insert r [] = r ∷ []
insert r (x ∷ xs) = cond (key_below r.key x.key) (r ∷ x ∷ xs) (x ∷ insert r xs)

unfoldable pub replace : Record → List Record → List Record
replace r l = map (λ x. cond (same_key r.key x.key) r x) l

unfoldable pub without : List ℕ → List Record → List Record
without k l = filter (λ r. not (same_key k r.key)) l

-- 100 n / m to the nearest whole number; "a half goes to the even neighbour" (document 02, U4; Fill.antt says what is claimed of it)
unfoldable pub fill_of : ℕ → ℕ → ℕ
fill_of n m =
    let quotient = 100 * n / m in
    let remainder = 100 * n % m in
    cond (ltb (2 * remainder) m) quotient (cond (ltb m (2 * remainder)) (quotient + 1) (quotient + quotient % 2))

-- tally's numbers: the sum of the marks other than 255, the side count, how many marks are 255, and the fill of n held over m buckets
unfoldable pub counted_totals : List ℕ → ℕ → ℕ → ℕ → Totals
counted_totals marks side n m =
    record {
      number = 0;
      in_buckets = sum (filter (λ x. not (eqb x 255)) marks);
      in_side = side;
      marked_255 = length (filter (λ x. eqb x 255) marks);
      fill = fill_of n m;
    }

-- the records that a search compares, with the buckets that it reads, and 1 where they are the side store's; none where a clipped count is zero
pub data Seen : Type 0 where
  unseen : Seen
  seen : List Record → ℕ → ℕ → Seen

abbrev pub answer_seen : Option Record → List ℕ → Seen → Answer
answer_seen o k unseen = answer o 0 0 0
answer_seen o k (seen l read side) = answer o read (comparisons k l) side

module _ (s : Card) where
  -- refusal 3: a key not of the card's width
  unfoldable pub key_wrong : List ℕ → Bool
  key_wrong k = not (eqb (length k) s.width)

  unfoldable pub side_need_of : List Record → ℕ
  side_need_of l = side_need s (true_count s l) l

  -- refusal 9
  unfoldable pub side_short : List Record → Bool
  side_short l = ltb s.side_places (side_need_of l)

  -- the list that a call would make
  unfoldable pub next : Call → List Record → List Record
  next clear l = []
  next (add k x) l = insert (record { key = k; class = x }) l
  next (change k x) l = replace (record { key = k; class = x }) l
  next (remove k) l = without k l
  next (search k) l = l
  next (fetch k) l = l
  next tally l = l

  -- the lowest refusal that applies, or 0: add 3, 6, 8, 9; change and remove 3, 7, 9; the searches 3
  unfoldable pub refusal : Call → List Record → ℕ
  refusal clear l = 0
  refusal (add k x) l =
      cond (key_wrong k) 3 (cond (held k l) 6 (cond (leb s.capacity (length l)) 8 (cond (side_short (next (add k x) l)) 9 0)))
  refusal (change k x) l = cond (key_wrong k) 3 (cond (not (held k l)) 7 (cond (side_short (next (change k x) l)) 9 0))
  refusal (remove k) l = cond (key_wrong k) 3 (cond (not (held k l)) 7 (cond (side_short (next (remove k) l)) 9 0))
  refusal (search k) l = cond (key_wrong k) 3 0
  refusal (fetch k) l = cond (key_wrong k) 3 0
  refusal tally l = 0

  -- an accepted search's counts come from the list's layout by counters c: with b the chosen bucket by clipped counts, a zero count sends it nowhere, all T to
  -- the side store, mark 255 to bucket b and on to the side store, another mark to bucket b
  unfoldable pub seen_by : (ℕ → ℕ) → List Record → List ℕ → Seen
  seen_by c l k =
      let clipped : ℕ → ℕ = λ b. clip s (c b) in
      let b = chosen s clipped k in
      cond (any (λ b. eqb (clipped b) 0) (s.numbers k)) unseen
      (cond (all (λ b. eqb (clipped b) s.top) (s.numbers k)) (seen (side_records s c l) 0 1)
      (cond (eqb (mark s c l b) 255) (seen (side_records s c l) 1 1) (seen (bucket_records s c l b) 1 0)))

  unfoldable pub search_by : (ℕ → ℕ) → List Record → List ℕ → Answer
  search_by c l k = answer_seen (find k l) k (seen_by c l k)

  unfoldable pub list_tally : List Record → Totals
  list_tally l = counted_totals (map (mark s (true_count s l) l) (upto 0 s.buckets)) (side_need_of l) (length l) s.buckets

  -- an update: refused, the list stays; accepted, it is the list that the call makes
  unfoldable pub updated : Call → List Record → Step (List Record)
  updated c l =
      cond (eqb (refusal c l) 0) (record { reply = answered (bare 0); state = next c l })
      (record { reply = answered (bare (refusal c l)); state = l })

  unfoldable pub plain : Call → List Record → Step (List Record)
  plain clear l = record { reply = answered (bare 0); state = [] }
  plain (add k x) l = updated (add k x) l
  plain (change k x) l = updated (change k x) l
  plain (remove k) l = updated (remove k) l
  plain (search k) l = record { reply = answered (cond (key_wrong k) (bare 3) (search_by (true_count s l) l k)); state = l }
  plain (fetch k) l = record { reply = handed (cond (key_wrong k) [] (part (find k l))); state = l }
  plain tally l = record { reply = totalled (list_tally l); state = l }
