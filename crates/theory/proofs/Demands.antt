-- The demands of specs/Demands.antt, but for the two on snapshots, which SnapshotLaws proves.
use mathlib.Core.Path.{◌≡◌, refl, sym, ap, ◌∙◌}
use mathlib.Core.Logic.{◌≢◌}
use mathlib.Core.Bool.{Bool, true, false, cond, not, false≢true}
use mathlib.Core.List.{List, [], ◌∷◌}
use mathlib.Core.Option.{none, some}
use Prim.Native.Nat.{ℕ, ◌+◌, ◌*◌, ◌≤◌, zero-le, max}
use native.Mathlib.Nat.{le_trans, max-le}
use native.Mathlib.Omega.{arith}
use lib.Dec.{ltb, eqb}
use borrow.Author.Tests.{eq-eqb}
use lib.ListN.{length}
use Rattle.theory.specs.Lists.{all, All}
use Rattle.theory.specs.Records.{Record, rising}
use Rattle.theory.specs.Settings.{Settings, allowed, Card, ipv4_width, card_of, record_size, ledger_length, work_length}
use Rattle.theory.specs.Placing.{true_count}
use Rattle.theory.specs.Layout.{Areas, layout}
use Rattle.theory.specs.Lookup.{Answer, bare, place, search_areas, fetch_areas}
use Rattle.theory.specs.Ledger.{Call, clear, add, change, remove, search, fetch, tally, answered, handed, Seen, unseen, seen, answer_seen, key_wrong}
use Rattle.theory.specs.Ledger.{side_short, refusal, search_by, seen_by, plain}
use Rattle.theory.specs.Calls.{reply_number, ledger_records, ledger_invalid, update, call, lookup_lengths, all_lengths, lent_lengths, only_reads, perform}
use Rattle.theory.specs.Calls.{run, areas_after, run_plain, list_after}
use Rattle.theory.specs.Snapshot.{first_count, head_size, body_wrong, save, file_settings, file_count, file_records, head_wrong, load}
use Rattle.theory.specs.Packet.{header_wrong, ports_cut, read_packet}
use Rattle.theory.specs.Demands.{Small, HasLayout, Sized, RefusedUnchanged, ReadsKeep, RefusedLoad, RefusedSave, RefusedPacket, HeldFound, AbsentNotFound}
use Rattle.theory.specs.Demands.{Demand3, SameFlowsSameBytes, AreasAfterRun, ListAfterRun, ReadsAtMostOne, ComparesAtMost, ComparesFew, OneBucket}
use Rattle.theory.proofs.ListLaws.{by_test}
use Rattle.theory.proofs.SettingsLaws.{ranges, sound}
use Rattle.theory.proofs.LookupLaws.{local_place, search_reads, search_few}
use Rattle.theory.proofs.RecordPlaceLaws.{search_compares}
use Rattle.theory.proofs.OrderLaws.{rising_answers}
use Rattle.theory.proofs.CallLaws.{found_width, sized, has_layout_empty, stays, call_step}

-- ---- what a found record, and none, make of an answer
held_answer : (r : Record) (k : List ℕ) (v : Seen) → ((answer_seen (some r) k v).number ≡ 0) × ((answer_seen (some r) k v).class ≡ r.class)
held_answer r k unseen = (refl, refl)
held_answer r k (seen l read side) = (refl, refl)

absent_answer : (k : List ℕ) (v : Seen) → ((answer_seen none k v).number ≡ 100) × ((answer_seen none k v).class ≡ 0)
absent_answer k unseen = (refl, refl)
absent_answer k (seen l read side) = (refl, refl)

right_width : (s : Card) (k : List ℕ) → length k ≡ s.width → key_wrong s k ≡ false
unfolding key_wrong
right_width s k e = rw (eq-eqb (length k) s.width e)

-- ---- areas of the right lengths are not refused with 2
module _ (s : Card) (a : Areas) (z : Sized s a) where
  pub lookup_lengths_right : all (λ x. x) (lookup_lengths s a) ≡ true
  unfolding lookup_lengths
  lookup_lengths_right = rw (eq-eqb _ _ z.clipped_counts, eq-eqb _ _ z.buckets, eq-eqb _ _ z.side_store)

  pub all_lengths_right : all (λ x. x) (all_lengths s a) ≡ true
  unfolding all_lengths
  all_lengths_right = rw (eq-eqb _ _ z.ledger, eq-eqb _ _ z.true_counts) lookup_lengths_right

  lent_lengths_right : (c : Call) → all (λ x. x) (lent_lengths s (work_length s) c a) ≡ true
  unfolding lent_lengths
  lent_lengths_right clear = all_lengths_right
  lent_lengths_right (add k x) = rw (eq-eqb (work_length s) (work_length s) refl) all_lengths_right
  lent_lengths_right (change k x) = rw (eq-eqb (work_length s) (work_length s) refl) all_lengths_right
  lent_lengths_right (remove k) = rw (eq-eqb (work_length s) (work_length s) refl) all_lengths_right
  lent_lengths_right (search k) = lookup_lengths_right
  lent_lengths_right (fetch k) = lookup_lengths_right
  lent_lengths_right tally = rw (eq-eqb _ _ z.ledger) lookup_lengths_right

module _ (t : Settings) (ok : allowed t ≡ true) where
  -- the card, and the length of its work area
  abbrev s : Card
  s = card_of t

  abbrev w : ℕ
  w = work_length s

  pub performed : (c : Call) (a : Areas) → Sized s a → perform t w c a ≡ call s c a
  unfolding perform
  performed c a z = rw (ok, lent_lengths_right s a z c)

  -- one call on the layout of a list
  pub performed_step : (c : Call) (l : List Record) → HasLayout s l
      → perform t w c (layout s l) ≡ record { reply = (plain s c l).reply; state = layout s (plain s c l).state }
  performed_step c l g = performed c (layout s l) (sized s (sound t ok) l g) ∙ call_step s (sound t ok) c l g

  -- ---- from the layout of a list, any calls come back, and leave the areas, as the plain ledger says
  runs : (cs : List Call) (l : List Record) → All Small cs → HasLayout s l → run t w cs (layout s l) ≡ run_plain s cs l
  unfolding run run_plain
  runs [] l m g = refl
  runs (c ∷ cs) l m g = rw (performed_step c l g, runs cs (plain s c l).state m.1 (stays s (sound t ok) c l m.0 g))

  -- ---- the areas and the list after the calls
  after : (cs : List Call) (l : List Record) → All Small cs → HasLayout s l
      → (areas_after t w cs (layout s l) ≡ layout s (list_after s cs l)) × HasLayout s (list_after s cs l)
  unfolding areas_after list_after
  after [] l m g = (refl, g)
  after (c ∷ cs) l m g = rw (performed_step c l g) (after cs (plain s c l).state m.1 (stays s (sound t ok) c l m.0 g))

  pub ends : (a : Areas) → Sized s a → (cs : List Call) → All Small cs
      → (areas_after t w (clear ∷ cs) a ≡ layout s (list_after s (clear ∷ cs) [])) × HasLayout s (list_after s (clear ∷ cs) [])
  unfolding areas_after list_after call plain
  ends a z cs m = rw (performed clear a z) (after cs [] m (has_layout_empty s (sound t ok)))

-- ---- DEMAND 3
pub demand_3 : Demand3
unfolding run run_plain call plain
demand_3 t ok a z cs m = rw (performed t ok clear a z, runs t ok cs [] m (has_layout_empty (card_of t) (sound t ok)))

pub same_flows_same_bytes : SameFlowsSameBytes
same_flows_same_bytes t ok a b za zb cs ds mc md alike =
    let c = ends t ok a za cs mc in
    let d = ends t ok b zb ds md in
    let one = list_after (card_of t) (clear ∷ cs) [] in
    let other = list_after (card_of t) (clear ∷ ds) [] in
    c.0 ∙ ap (layout (card_of t)) (rising_answers one other c.1.order d.1.order alike) ∙ sym d.0

pub areas_after_run : AreasAfterRun
unfolding areas_after run
areas_after_run t w [] a = refl
areas_after_run t w (c ∷ cs) a = areas_after_run t w cs (perform t w c a).state

pub list_after_run : ListAfterRun
unfolding list_after run_plain
list_after_run s [] l = refl
list_after_run s (c ∷ cs) l = list_after_run s cs (plain s c l).state

-- ---- DEMAND 2
-- what a search gives takes no work area
any_work_search : (t : Settings) (w v : ℕ) (k : List ℕ) (a : Areas) → perform t w (search k) a ≡ perform t v (search k) a
unfolding perform lent_lengths
any_work_search t w v k a = refl

any_work_fetch : (t : Settings) (w v : ℕ) (k : List ℕ) (a : Areas) → perform t w (fetch k) a ≡ perform t v (fetch k) a
unfolding perform lent_lengths
any_work_fetch t w v k a = refl

module _ (t : Settings) (ok : allowed t ≡ true) (w : ℕ) (l : List Record) (g : HasLayout (card_of t) l) (k : List ℕ) where
  searched_step : (perform t w (search k) (layout (card_of t) l)).reply ≡ (plain (card_of t) (search k) l).reply
  searched_step = rw (any_work_search t w (work_length (card_of t)) k (layout (card_of t) l), performed_step t ok (search k) l g)

  fetched_step : (perform t w (fetch k) (layout (card_of t) l)).reply ≡ (plain (card_of t) (fetch k) l).reply
  fetched_step = rw (any_work_fetch t w (work_length (card_of t)) k (layout (card_of t) l), performed_step t ok (fetch k) l g)

pub held_found : HeldFound
unfolding plain search_by
held_found t ok w l g k r e =
    let s = card_of t in
    let right : key_wrong s k ≡ false = right_width s k (found_width s k r l g.fit e) in
    let found = held_answer r k (seen_by s (true_count s l) l k) in
    rw (searched_step t ok w l g k, fetched_step t ok w l g k, right, e) (found.0, found.1, refl)

pub absent_not_found : AbsentNotFound
unfolding plain search_by
absent_not_found t ok w l g k e wide =
    let s = card_of t in
    let absent = absent_answer k (seen_by s (true_count s l) l k) in
    rw (searched_step t ok w l g k, fetched_step t ok w l g k, right_width s k wide, e) (absent.0, absent.1, refl)

-- ---- on every input: any settings, any lengths, any contents
module _ (t : Settings) (w : ℕ) where
  -- what the searches give back, by the three lookup areas alone
  pub search_reply : (k : List ℕ) (a : Areas) → (perform t w (search k) a).reply
      ≡ answered
      (cond (not (allowed t)) (bare 1)
      (cond (not (all (λ x. x) (lookup_lengths (card_of t) a))) (bare 2)
      (cond (key_wrong (card_of t) k) (bare 3) (search_areas (card_of t) a.clipped_counts a.buckets a.side_store k))))
  unfolding perform call lent_lengths
  search_reply k a =
      by_test (allowed t) (λ e. rw e (by_test (all (λ x. x) (lookup_lengths (card_of t) a)) (λ f. rw f) (λ f. rw f))) (λ e. rw e)

  pub fetch_reply : (k : List ℕ) (a : Areas) → (perform t w (fetch k) a).reply
      ≡ handed
      (cond (not (allowed t)) []
      (cond (not (all (λ x. x) (lookup_lengths (card_of t) a))) []
      (cond (key_wrong (card_of t) k) [] (fetch_areas (card_of t) a.clipped_counts a.buckets a.side_store k))))
  unfolding perform call lent_lengths
  fetch_reply k a =
      by_test (allowed t) (λ e. rw e (by_test (all (λ x. x) (lookup_lengths (card_of t) a)) (λ f. rw f) (λ f. rw f))) (λ e. rw e)

-- ---- a number of a search's answer: at most n where no refusal has more, and none by the areas
judged_most : (f : Answer → ℕ) (n : ℕ) → ((m : ℕ) → m ≤ 3 → f (bare m) ≤ n) → (t : Settings) (a : Areas) (k : List ℕ)
    → (allowed t ≡ true → f (search_areas (card_of t) a.clipped_counts a.buckets a.side_store k) ≤ n)
    → f (cond (not (allowed t)) (bare 1)
    (cond (not (all (λ x. x) (lookup_lengths (card_of t) a))) (bare 2)
    (cond (key_wrong (card_of t) k) (bare 3) (search_areas (card_of t) a.clipped_counts a.buckets a.side_store k)))) ≤ n
judged_most f n refused t a k by-areas =
    by_test (allowed t)
    (λ e. rw e (by_test (all (λ x. x) (lookup_lengths (card_of t) a))
    (λ l. rw l (by_test (key_wrong (card_of t) k) (λ q. rw q (refused 3 (omega arith))) (λ q. rw q (by-areas e))))
    (λ l. rw l (refused 2 (omega arith)))))
    (λ e. rw e (refused 1 (omega arith)))

-- a search reads at most one bucket
pub reads_at_most_one : ReadsAtMostOne
reads_at_most_one t w k a =
    rw (search_reply t w k a) (judged_most (λ x. x.buckets_read) 1 (λ n few. zero-le) t a k
    (λ ok. search_reads (card_of t) a.clipped_counts a.buckets a.side_store k))

-- and compares no more records than a bucket or the side store has places
pub compares_at_most : ComparesAtMost
unfolding card_of
compares_at_most t w k a =
    rw (search_reply t w k a) (judged_most (λ x. x.records_compared) (max t.room t.side_places) (λ n few. zero-le) t a k
    (λ ok. search_compares (card_of t) a.clipped_counts a.buckets a.side_store k))

pub compares_few : ComparesFew
unfolding card_of
compares_few t w k a =
    rw (search_reply t w k a) (judged_most (λ x. x.records_compared) 64 (λ n few. zero-le) t a k
    (λ ok. let r = ranges t ok in
    le_trans (search_compares (card_of t) a.clipped_counts a.buckets a.side_store k) (max-le (omega (arith, r)) (omega (arith, r)))))

-- and its number is at most 100
pub search_number_few : (t : Settings) (w : ℕ) (k : List ℕ) (a : Areas) → reply_number (perform t w (search k) a).reply ≤ 100
search_number_few t w k a =
    rw (search_reply t w k a) (judged_most (λ x. x.number) 100 (λ n few. omega arith) t a k
    (λ ok. search_few (card_of t) a.clipped_counts a.buckets a.side_store k))

-- 1, 2 and 3 first: two searches that agree where none of them applies agree
judged_alike : {X : Type 0} (refused : ℕ → X) (x y z : Bool) (p q : X) → (x ≡ true → y ≡ true → z ≡ false → p ≡ q)
    → cond (not x) (refused 1) (cond (not y) (refused 2) (cond z (refused 3) p)) ≡ cond (not x) (refused 1) (cond (not y) (refused 2) (cond z (refused 3) q))
judged_alike refused true true true p q h = refl
judged_alike refused true true false p q h = h refl refl refl
judged_alike refused true false z p q h = refl
judged_alike refused false y z p q h = refl

pub one_bucket : OneBucket
unfolding lookup_lengths search_areas fetch_areas
one_bucket t w k a b same_clipped same_side same_length alike =
    let s = card_of t in
    let lengths = all (λ x. x) (lookup_lengths s a) in
    let p : allowed t ≡ true → lengths ≡ true → key_wrong s k ≡ false
    → place s a.clipped_counts b.buckets a.side_store k ≡ place s a.clipped_counts a.buckets a.side_store k =
    λ x y z. local_place s a.clipped_counts a.side_store b.buckets a.buckets k (λ r. alike (rw (x, y, z, r))) in (
      rw (search_reply t w k b, search_reply t w k a, same_clipped, same_side, same_length)
          (ap answered (judged_alike bare (allowed t) lengths (key_wrong s k) _ _ (λ x y z. rw (p x y z)))),
      rw (fetch_reply t w k b, fetch_reply t w k a, same_clipped, same_side, same_length)
          (ap handed (judged_alike (λ n. []) (allowed t) lengths (key_wrong s k) _ _ (λ x y z. rw (p x y z)))),
    )

-- ---- DEMAND 1
-- a call on areas of the right lengths
module _ (s : Card) (a : Areas) where
  updating : (k : List ℕ) (c : Call) → reply_number (update s k c a).reply ≢ 0 → (update s k c a).state ≡ a
  unfolding update
  updating k c =
      by_test (key_wrong s k) (λ e. rw e (λ n. refl))
      (λ e. rw e (by_test (ledger_invalid s a.ledger) (λ f. rw f (λ n. refl))
      (λ f. rw f (by_test (eqb (refusal s c (ledger_records s a.ledger)) 0) (λ z. rw z (λ n. absurd (n refl))) (λ z. rw z (λ n. refl))))))

  call_refused : (c : Call) → reply_number (call s c a).reply ≢ 0 → (call s c a).state ≡ a
  unfolding call
  call_refused clear n = absurd (n refl)
  call_refused (add k x) n = updating k (add k x) n
  call_refused (change k x) n = updating k (change k x) n
  call_refused (remove k) n = updating k (remove k) n
  call_refused (search k) n = refl
  call_refused (fetch k) n = refl
  call_refused tally n = refl

  call_keeps : (c : Call) → only_reads c ≡ true → (call s c a).state ≡ a
  unfolding call
  call_keeps clear e = absurd (false≢true e)
  call_keeps (add k x) e = absurd (false≢true e)
  call_keeps (change k x) e = absurd (false≢true e)
  call_keeps (remove k) e = absurd (false≢true e)
  call_keeps (search k) e = refl
  call_keeps (fetch k) e = refl
  call_keeps tally e = refl

pub refused_unchanged : RefusedUnchanged
unfolding perform
refused_unchanged t w c a =
    by_test (allowed t)
    (λ e. rw e (by_test (all (λ x. x) (lent_lengths (card_of t) w c a)) (λ f. rw f (λ n m. call_refused (card_of t) a c n)) (λ f. rw f (λ n m. refl))))
    (λ e. rw e (λ n m. refl))

pub reads_keep : ReadsKeep
unfolding perform
reads_keep t w c a r =
    by_test (allowed t)
    (λ e. rw e (by_test (all (λ x. x) (lent_lengths (card_of t) w c a)) (λ f. rw f (call_keeps (card_of t) a c r)) (λ f. rw f)))
    (λ e. rw e)

pub refused_load : RefusedLoad
unfolding load
refused_load f w a =
    let t = file_settings f in
    let s = card_of t in
    by_test (head_wrong f) (λ e. rw e (λ n. refl))
    (λ e. rw e (by_test (not (allowed t)) (λ e. rw e (λ n. refl))
    (λ e. rw e (by_test (not (all (λ x. x) (eqb w (work_length s) ∷ all_lengths s a))) (λ e. rw e (λ n. refl))
    (λ e. rw e (by_test (ltb t.capacity (file_count f)) (λ e. rw e (λ n. refl))
    (λ e. rw e (by_test (body_wrong t f) (λ e. rw e (λ n. refl))
    (λ e. rw e (by_test (not (rising (file_records f))) (λ e. rw e (λ n. refl))
    (λ e. rw e (by_test (side_short s (file_records f)) (λ e. rw e (λ n. refl)) (λ e. rw e (λ n. absurd (n refl)))))))))))))))

pub refused_save : RefusedSave
unfolding save
refused_save t ledger w target =
    let s = card_of t in
    let l = ledger_records s ledger in
    by_test (not (allowed t)) (λ e. rw e (λ n. refl))
    (λ e. rw e (by_test (not (all (λ x. x) (eqb w (work_length s) ∷ eqb (length ledger) (ledger_length s) ∷ []))) (λ e. rw e (λ n. refl))
    (λ e. rw e (by_test (ledger_invalid s ledger) (λ e. rw e (λ n. refl))
    (λ e. rw e (by_test (side_short s l) (λ e. rw e (λ n. refl))
    (λ e. rw e (by_test (not (eqb (length target) (head_size (first_count t) + record_size s * length l))) (λ e. rw e (λ n. refl))
    (λ e. rw e (λ n. absurd (n refl)))))))))))

pub refused_packet : RefusedPacket
unfolding read_packet
refused_packet q buffer =
    by_test (not (eqb (length buffer) ipv4_width)) (λ e. rw e (λ n. refl))
    (λ e. rw e (by_test (header_wrong q) (λ e. rw e (λ n. refl))
    (λ e. rw e (by_test (ports_cut q) (λ e. rw e (λ n. refl)) (λ e. rw e (λ n. absurd (n refl)))))))
