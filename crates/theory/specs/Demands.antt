-- The three demands as statements in the words of the other files of this folder, and what they assume of records, lists, areas and calls. The name of the law
-- that proves a statement stands at it: `load_save`, `save_load` and the three on a file's head are in proofs/SnapshotLaws.antt, `as_lent` is in
-- proofs/LentLaws.antt, the others are in proofs/Demands.antt.
use Rattle.std.specs.Prelude.{◌≡◌, ◌≢◌, Bool, true, not, ◌&&◌, List, [], ◌∷◌, ℕ, ◌≤◌, ◌<◌, ◌^◌, max, length}
use Rattle.std.proofs.Math.Option.{none, some}
use Rattle.theory.specs.Lists.{all, All}
use Rattle.theory.specs.Records.{Record, record_bytes, rising, find}
use Rattle.theory.specs.Settings.{Settings, allowed, Card, card_of, ledger_length, true_length, clipped_length, buckets_length, side_length}
use Rattle.theory.specs.Settings.{work_length, settings_in}
use Rattle.theory.specs.Placing.{chosen}
use Rattle.theory.specs.Layout.{Areas, layout}
use Rattle.theory.specs.Lookup.{counter, bucket_part, reads_bucket}
use Rattle.theory.specs.Ledger.{Call, clear, add, change, remove, search, fetch, tally, handed, key_wrong, side_need_of}
use Rattle.theory.specs.Calls.{reply_number, reply_class, reply_buckets_read, reply_compared}
use Rattle.theory.specs.Calls.{ledger_records, lookup_lengths, only_reads, lent_areas, lent_work, perform}
use Rattle.theory.specs.Calls.{run, areas_after, last_state, run_plain, list_after}
use Rattle.theory.specs.Snapshot.{settings_list, settings_count, save, file_settings, load, head_settings}
use Rattle.theory.specs.Packet.{read_packet}

-- ---- WHAT IS ASSUMED
-- a byte
abbrev pub Byte : ℕ → Type 0
Byte x = x < 256

-- a record whose key has w bytes and whose class is an unsigned 32-bit number
pub record Fit (w : ℕ) (r : Record) : Type 0 where
  pub wide : length r.key ≡ w
  pub small : r.class < 2 ^ 32

-- a call with an unsigned 32-bit class, if it has one; its key may have any length
abbrev pub Small : Call → Type 0
Small clear = Unit {0}
Small (add k x) = x < 2 ^ 32
Small (change k x) = x < 2 ^ 32
Small (remove k) = Unit {0}
Small (search k) = Unit {0}
Small (fetch k) = Unit {0}
Small tally = Unit {0}

module _ (s : Card) where
  -- a list that has a layout: records in rising key order, at most N, with a side need of at most S
  pub record HasLayout (l : List Record) : Type 0 where
    pub fit : All (Fit s.width) l
    pub order : rising l ≡ true
    pub few : length l ≤ s.capacity
    pub need : side_need_of s l ≤ s.side_places

  -- areas of the lengths that the settings give, with any contents
  pub record Sized (a : Areas) : Type 0 where
    pub ledger : length a.ledger ≡ ledger_length s
    pub true_counts : length a.true_counts ≡ true_length s
    pub clipped_counts : length a.clipped_counts ≡ clipped_length s
    pub buckets : length a.buckets ≡ buckets_length s
    pub side_store : length a.side_store ≡ side_length s

-- ---- DEMAND 1: "Refused, by a number of document 01 and with every area but work unaltered". On every input: any settings, lengths and contents
-- refused_unchanged: a number other than 0 and 100 leaves the five areas as they were
abbrev pub RefusedUnchanged : Type 0
RefusedUnchanged =
    (t : Settings) (w : ℕ) (c : Call) (a : Areas)
    → reply_number (perform t w c a).reply ≢ 0 → reply_number (perform t w c a).reply ≢ 100 → (perform t w c a).state ≡ a

-- reads_keep: both searches and tally leave the five areas as they were, whatever comes back; of a refused fetch that is no number but the empty part
abbrev pub ReadsKeep : Type 0
ReadsKeep = (t : Settings) (w : ℕ) (c : Call) (a : Areas) → only_reads c ≡ true → (perform t w c a).state ≡ a

-- refused_load, refused_save, refused_packet: a number other than 0 leaves the areas, the target and the buffer as they were
abbrev pub RefusedLoad : Type 0
RefusedLoad = (f : List ℕ) (w : ℕ) (a : Areas) → (load f w a).number ≢ 0 → (load f w a).areas ≡ a

abbrev pub RefusedSave : Type 0
RefusedSave = (t : Settings) (ledger : List ℕ) (w : ℕ) (target : List ℕ) → (save t ledger w target).number ≢ 0 → (save t ledger w target).target ≡ target

abbrev pub RefusedPacket : Type 0
RefusedPacket = (q buffer : List ℕ) → (read_packet q buffer).number ≢ 0 → (read_packet q buffer).buffer ≡ buffer

-- ---- DEMAND 2: "A search in it gives the class of each held flow and absent for every other", both searches, over the layout of any list that has one
-- held_found
abbrev pub HeldFound : Type 0
HeldFound =
    (t : Settings) → allowed t ≡ true → (w : ℕ) (l : List Record) → HasLayout (card_of t) l → (k : List ℕ) (r : Record) → find k l ≡ some r
    → (reply_number (perform t w (search k) (layout (card_of t) l)).reply ≡ 0)
    × (reply_class (perform t w (search k) (layout (card_of t) l)).reply ≡ r.class)
    × ((perform t w (fetch k) (layout (card_of t) l)).reply ≡ handed (record_bytes r))

-- absent_not_found
abbrev pub AbsentNotFound : Type 0
AbsentNotFound =
    (t : Settings) → allowed t ≡ true → (w : ℕ) (l : List Record) → HasLayout (card_of t) l → (k : List ℕ) → find k l ≡ none → length k ≡ (card_of t).width
    → (reply_number (perform t w (search k) (layout (card_of t) l)).reply ≡ 100)
    × (reply_class (perform t w (search k) (layout (card_of t) l)).reply ≡ 0)
    × ((perform t w (fetch k) (layout (card_of t) l)).reply ≡ handed [])

-- "A saved snapshot loads to the same flows", under the same settings and as their layout: load_save
abbrev pub LoadSave : Type 0
LoadSave =
    (t : Settings) (ledger : List ℕ) (w : ℕ) (target : List ℕ) → (save t ledger w target).number ≡ 0 → All Byte ledger → (a : Areas) → Sized (card_of t) a
    → load (save t ledger w target).target (work_length (card_of t)) a
    ≡ record { number = 0; settings = t; areas = layout (card_of t) (ledger_records (card_of t) ledger) }

-- "and a file that loads is the one that saving would write": save_load
abbrev pub SaveLoad : Type 0
SaveLoad =
    (f : List ℕ) (w : ℕ) (a : Areas) → (load f w a).number ≡ 0 → All Byte f → (target : List ℕ) → length target ≡ length f
    → save (load f w a).settings (load f w a).areas.ledger (work_length (card_of (load f w a).settings)) target ≡ record { number = 0; target = f }

-- the settings of a file's head, in an area of 7 numbers for them, are those that the file loads with, whatever the areas: head_load
abbrev pub HeadLoad : Type 0
HeadLoad =
    (f : List ℕ) (w : ℕ) (a : Areas) → (load f w a).number ≡ 0 → (area : List ℕ) → length area ≡ settings_count
    → head_settings f area ≡ record { number = 0; settings = settings_list (load f w a).settings }

-- of a saved snapshot they are the settings that it was saved under: head_save
abbrev pub HeadSave : Type 0
HeadSave =
    (t : Settings) (ledger : List ℕ) (w : ℕ) (target : List ℕ) → (save t ledger w target).number ≡ 0 → All Byte ledger
    → (area : List ℕ) → length area ≡ settings_count
    → head_settings (save t ledger w target).target area ≡ record { number = 0; settings = settings_list t }

-- "so that a caller can size its areas before loading": with areas of the lengths under them the load answers neither 1 nor 2: head_sizes
abbrev pub HeadSizes : Type 0
HeadSizes =
    (f area : List ℕ) → (head_settings f area).number ≡ 0 → (a : Areas) → Sized (card_of (file_settings f)) a
    → ((load f (work_length (card_of (file_settings f))) a).number ≢ 1) × ((load f (work_length (card_of (file_settings f))) a).number ≢ 2)

-- the settings that are handed back, as a list of numbers, are what every call that is lent settings takes for them: handed_on
abbrev pub HandedOn : Type 0
HandedOn = (t : Settings) → settings_in (settings_list t) ≡ t

-- ---- DEMAND 3: "Clear a table under any accepted settings, whatever its areas held before. Run on it, under these settings, any list" of calls. "Each answer,
-- refusals and counts too, equals that of the plain ledger fed the same calls. .. After the clear and after every call the five areas hold exactly the layout
-- of that ledger": demand_3
abbrev pub Demand3 : Type 0
Demand3 =
    (t : Settings) → allowed t ≡ true → (a : Areas) → Sized (card_of t) a → (cs : List Call) → All Small cs
    → run t (work_length (card_of t)) (clear ∷ cs) a ≡ run_plain (card_of t) (clear ∷ cs) []

-- "For every two such lists under the same settings after which the ledger holds the same flows with the same classes, the bytes are the same, however the
-- lists differ and whatever stood there before": same_flows_same_bytes
abbrev pub SameFlowsSameBytes : Type 0
SameFlowsSameBytes =
    (t : Settings) → allowed t ≡ true → (a b : Areas) → Sized (card_of t) a → Sized (card_of t) b → (cs ds : List Call) → All Small cs → All Small ds
    → ((k : List ℕ) → find k (list_after (card_of t) (clear ∷ cs) []) ≡ find k (list_after (card_of t) (clear ∷ ds) []))
    → areas_after t (work_length (card_of t)) (clear ∷ cs) a ≡ areas_after t (work_length (card_of t)) (clear ∷ ds) b

-- the areas after the calls are those of the last step, and so is the list: areas_after_run, list_after_run
abbrev pub AreasAfterRun : Type 0
AreasAfterRun = (t : Settings) (w : ℕ) (cs : List Call) (a : Areas) → areas_after t w cs a ≡ last_state a (run t w cs a)

abbrev pub ListAfterRun : Type 0
ListAfterRun = (s : Card) (cs : List Call) (l : List Record) → layout s (list_after s cs l) ≡ last_state (layout s l) (run_plain s cs l)

-- "each is lent those it takes, and a work area .. if it takes one": as_lent. Over all five areas a call gives what it gives over those that it is lent, and
-- leaves in them what it leaves there
abbrev pub AsLent : Type 0
AsLent =
    (t : Settings) (w : ℕ) (c : Call) (a : Areas)
    → ((perform t w c a).reply ≡ (perform t (lent_work c w) c (lent_areas c a)).reply)
    × (lent_areas c (perform t w c a).state ≡ (perform t (lent_work c w) c (lent_areas c a)).state)

-- "Each search reads at most one bucket": reads_at_most_one, one_bucket. On every input
abbrev pub ReadsAtMostOne : Type 0
ReadsAtMostOne = (t : Settings) (w : ℕ) (k : List ℕ) (a : Areas) → reply_buckets_read (perform t w (search k) a).reply ≤ 1

-- and it compares at most as many records as a bucket or the side store has places, so at most 64: compares_at_most, compares_few. On every input
abbrev pub ComparesAtMost : Type 0
ComparesAtMost = (t : Settings) (w : ℕ) (k : List ℕ) (a : Areas) → reply_compared (perform t w (search k) a).reply ≤ max t.room t.side_places

abbrev pub ComparesFew : Type 0
ComparesFew = (t : Settings) (w : ℕ) (k : List ℕ) (a : Areas) → reply_compared (perform t w (search k) a).reply ≤ 64

-- a bucket is read: the call ends neither in 1 nor in 2 nor in 3, and the counters send the key to a bucket
abbrev pub bucket_read : Settings → List ℕ → Areas → Bool
bucket_read t k a =
    allowed t && all (λ x. x) (lookup_lengths (card_of t) a) && not (key_wrong (card_of t) k) && reads_bucket (card_of t) a.clipped_counts k

-- "on any other lookup areas of these lengths with the same clipped counts and side store, and alike in the chosen bucket if one is read, its whole answer is
-- the same"; and so is the part that fetch hands back
abbrev pub OneBucket : Type 0
OneBucket =
    (t : Settings) (w : ℕ) (k : List ℕ) (a b : Areas)
    → b.clipped_counts ≡ a.clipped_counts → b.side_store ≡ a.side_store → length b.buckets ≡ length a.buckets
    → (bucket_read t k a ≡ true
    → bucket_part (card_of t) b.buckets (chosen (card_of t) (counter a.clipped_counts) k)
    ≡ bucket_part (card_of t) a.buckets (chosen (card_of t) (counter a.clipped_counts) k))
    → ((perform t w (search k) b).reply ≡ (perform t w (search k) a).reply) × ((perform t w (fetch k) b).reply ≡ (perform t w (fetch k) a).reply)
