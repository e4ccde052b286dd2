-- include/flow_live.h: one writer publishes copies of a table's lookup areas, and readers search a copy, with no lock. Its steps as a machine, one for each
-- atomic step of the header, and what is claimed of every order in which any number of readers and the writer take them. Proofs: LiveLaws.
--
-- What this assumes of C11: the accesses that are seq_cst in the header (the store and the second load of an enter, the store and the loads of a publish)
-- stand in one order, in which each thread's are as it makes them and a load has the last store before it: the order of the machine's steps. Of the other
-- two it assumes less. The first load of an enter, an acquire, gives any number. The store of a leave, a release, comes to be seen at any time before the
-- reader's next store. And who loads a value has all that was done before its store, for every store releases and every load of another thread's store
-- acquires: so the bytes of the copies, which are no atomics, are as the machine says, and what it keeps apart is no race.
use Rattle.std.specs.Prelude.{◌≡◌, ◌≢◌, Bool, true, false, cond, ◌||◌, List, [], ◌∷◌, ℕ, ◌+◌, ◌≤◌, ◌<◌, eqb, length}
use Rattle.theory.specs.Lists.{all, has, All}

-- ---- the state
-- what a copy holds: bytes that the writer is at, whichever of them it has written; or the table of publish number v, whole. 0 is the opened, empty table
pub data Contents : Type 0 where
  unfinished : Contents
  whole : ℕ → Contents

-- where a reader's thread is: in no call and no section; in flow_live_enter, its local `copy` c not stored yet, or stored; in a section with copy c
pub data Stage : Type 0 where
  outside : Stage
  loaded : ℕ → Stage
  stored : ℕ → Stage
  within : ℕ → Stage

-- it has not stored its `inside` since its last section
abbrev pub Away : Stage → Type 0
Away outside = Unit {0}
Away (loaded c) = Unit {0}
Away (stored c) = ⊥
Away (within c) = ⊥

-- a section, for the claims alone: how many publishes had stored `current` when its flow_live_enter was called; what its reads gave, the latest first
pub record Section : Type 0 where
  pub started : ℕ
  pub reads : List Contents

-- struct flow_live_reader, and its thread
pub record Reader : Type 0 where
  pub inside : ℕ
  pub stage : Stage
  pub sections : List Section

-- where the writer's thread is: in no call; in flow_live_copies_in_use, with the numbers that its loads gave, the latest first (`in_use` has their bits);
-- in flow_live_take to copy c; after it
pub data Writer : Type 0 where
  idle : Writer
  looking : List ℕ → Writer
  writing : ℕ → Writer
  written : ℕ → Writer

-- struct flow_live, its readers and its copies by their numbers; and the number of the last publish, for the claims alone
pub record State : Type 0 where
  pub current : ℕ
  pub copy : ℕ → Contents
  pub reader : ℕ → Reader
  pub writer : Writer
  pub published : ℕ

-- flow_live_open
abbrev pub opened : State
opened =
    record {
      current = 0;
      copy = λ c. whole 0;
      reader = λ i. record { inside = 0; stage = outside; sections = [] };
      writer = idle;
      published = 0;
    }

-- ---- what steps alter
-- f with x at i
abbrev pub put : {A : Type 0} → (ℕ → A) → ℕ → A → ℕ → A
put f i x j = cond (eqb j i) x (f j)

abbrev pub with_reader : State → ℕ → Reader → State
with_reader s i r = record { current = s.current; copy = s.copy; reader = put s.reader i r; writer = s.writer; published = s.published }

abbrev pub at_stage : Reader → Stage → Reader
at_stage r x = record { inside = r.inside; stage = x; sections = r.sections }

abbrev pub with_inside : Reader → ℕ → Stage → Reader
with_inside r n x = record { inside = n; stage = x; sections = r.sections }

abbrev pub starting : Reader → ℕ → Stage → Reader
starting r n x = record { inside = r.inside; stage = x; sections = record { started = n; reads = [] } ∷ r.sections }

-- a read of the section under way, the first, gave x
abbrev pub noted : Contents → List Section → List Section
noted x [] = []
noted x (t ∷ ts) = record { started = t.started; reads = x ∷ t.reads } ∷ ts

abbrev pub reading : Reader → Contents → Reader
reading r x = record { inside = r.inside; stage = r.stage; sections = noted x r.sections }

abbrev pub with_writer : State → Writer → State
with_writer s w = record { current = s.current; copy = s.copy; reader = s.reader; writer = w; published = s.published }

abbrev pub with_copy : State → ℕ → Contents → Writer → State
with_copy s c x w = record { current = s.current; copy = put s.copy c x; reader = s.reader; writer = w; published = s.published }

abbrev pub with_current : State → ℕ → State
with_current s c = record { current = c; copy = s.copy; reader = s.reader; writer = idle; published = s.published + 1 }

-- flow_live_free_copy, of a copy: it is one of the copies, not current, and no load gave it
pub record Free (copies : ℕ) (s : State) (seen : List ℕ) (c : ℕ) : Type 0 where
  pub in_range : c < copies
  pub not_current : c ≢ s.current
  pub not_seen : has (1 + c) seen ≡ false

-- ---- the steps, of so many readers and copies: from s to what each leaves
pub data Step (readers copies : ℕ) (s : State) : State → Type 0 where
  -- flow_live_enter is called, and its first load gives c, whatever that is
  loads : (i c : ℕ) → i < readers → (s.reader i).stage ≡ outside
      → Step readers copies s (with_reader s i (starting (s.reader i) s.published (loaded c)))
  -- atomic_store_explicit(&reader->inside, 1 + copy, memory_order_seq_cst)
  stores : (i c : ℕ) → (s.reader i).stage ≡ loaded c → Step readers copies s (with_reader s i (with_inside (s.reader i) (1 + c) (stored c)))
  -- current = atomic_load_explicit(&live->current, memory_order_seq_cst), which gives copy: the section starts
  enters : (i c : ℕ) → (s.reader i).stage ≡ stored c → s.current ≡ c → Step readers copies s (with_reader s i (at_stage (s.reader i) (within c)))
  -- the same load gives another: copy = current, and the loop goes on
  starts_over : (i c : ℕ) → (s.reader i).stage ≡ stored c → s.current ≢ c
      → Step readers copies s (with_reader s i (at_stage (s.reader i) (loaded s.current)))
  -- a door reads bytes of the section's copy
  reads : (i c : ℕ) → (s.reader i).stage ≡ within c → Step readers copies s (with_reader s i (reading (s.reader i) (s.copy c)))
  -- flow_live_leave is called: the thread reads no more
  leaves : (i c : ℕ) → (s.reader i).stage ≡ within c → Step readers copies s (with_reader s i (at_stage (s.reader i) outside))
  -- its atomic_store_explicit(&reader->inside, 0, memory_order_release) is there to be loaded
  clears : (i : ℕ) → Away (s.reader i).stage → Step readers copies s (with_reader s i (with_inside (s.reader i) 0 (s.reader i).stage))
  -- flow_live_copies_in_use is called, by flow_live_free_copy or flow_live_settled: in_use = 0
  begins : s.writer ≡ idle → Step readers copies s (with_writer s (looking []))
  -- atomic_load_explicit(&live->readers[i].inside, memory_order_seq_cst), of the next reader
  looks : (seen : List ℕ) → s.writer ≡ looking seen → length seen < readers
      → Step readers copies s (with_writer s (looking ((s.reader (length seen)).inside ∷ seen)))
  -- every reader is asked, and flow_live_free_copy returns c, any that is free: the first byte of c may be written
  picks : (seen : List ℕ) (c : ℕ) → s.writer ≡ looking seen → length seen ≡ readers → Free copies s seen c
      → Step readers copies s (with_copy s c unfinished (writing c))
  -- none is free: FLOW_LIVE_WAIT, and flow_live_copies_in_use is called again; or flow_live_settled returns
  drops : (seen : List ℕ) → s.writer ≡ looking seen → Step readers copies s (with_writer s idle)
  -- flow_live_take has written the last byte: c holds the table of the publish under way
  writes : (c : ℕ) → s.writer ≡ writing c → Step readers copies s (with_copy s c (whole (s.published + 1)) (written c))
  -- atomic_store_explicit(&live->current, copy, memory_order_seq_cst): the publish is done
  publishes : (c : ℕ) → s.writer ≡ written c → Step readers copies s (with_current s c)

-- any number of steps, of anyone, in any order
pub data Run (readers copies : ℕ) (s : State) : State → Type 0 where
  start : Run readers copies s s
  then : {t u : State} → Run readers copies s t → Step readers copies t u → Run readers copies s u

-- ---- what is claimed, for any number of readers and of copies
-- 1, no_race: "No byte is written while it is read". In no state is a reader in a section with the copy that the writer writes
abbrev pub NoRace : Type 0
NoRace =
    (readers copies : ℕ) (s : State) → Run readers copies opened s
    → (i c : ℕ) → s.writer ≡ writing c → (s.reader i).stage ≡ within c → ⊥

-- the sections of a reader, the latest first, have each one table: v, which is not later than `latest`; not older than a publish that had stored when
-- the section started; and every read gave v, whole. The sections before have v or an older one
abbrev pub OneTableEach : ℕ → List Section → Type 0
OneTableEach latest [] = Unit {0}
OneTableEach latest (t ∷ ts) = (v : ℕ) × (v ≤ latest) × (t.started ≤ v) × All (λ x. x ≡ whole v) t.reads × OneTableEach v ts

-- 2 and 3, sections_whole: "Every search of a section answers from one published table, whole. A section that starts after flow_live_publish returned
-- has that table or a later one. The sections of a reader never go back"
abbrev pub SectionsWhole : Type 0
SectionsWhole =
    (readers copies : ℕ) (s : State) → Run readers copies opened s
    → (i : ℕ) → OneTableEach s.published (s.reader i).sections

-- 4, never_waits: "With two copies more than there are readers a publish waits for nobody". When every reader is asked a copy is free
abbrev pub NeverWaits : Type 0
NeverWaits =
    (readers copies : ℕ) (s : State) (seen : List ℕ) → length seen ≡ readers → readers + 2 ≤ copies
    → (c : ℕ) × Free copies s seen c

-- and waits_for_all: "with fewer .. it waits while every copy but the current one has a reader in it". Where none is free, each other one was seen
abbrev pub WaitsForAll : Type 0
WaitsForAll =
    (copies : ℕ) (s : State) (seen : List ℕ) → ((c : ℕ) → Free copies s seen c → ⊥)
    → (c : ℕ) → c < copies → c ≢ s.current → has (1 + c) seen ≡ true

-- flow_live_settled's answer: no load gave another copy than the current one
abbrev pub settled : State → List ℕ → Bool
settled s seen = all (λ n. eqb n 0 || eqb n (1 + s.current)) seen

-- 5, settled_for_good: "flow_live_settled says when no section has a table from before the last publish". Then and ever after, a reader in a section has
-- a copy that holds the table of that publish, or of a later one
abbrev pub SettledForGood : Type 0
SettledForGood =
    (readers copies : ℕ) (s : State) → Run readers copies opened s
    → (seen : List ℕ) → s.writer ≡ looking seen → length seen ≡ readers → settled s seen ≡ true
    → (later : State) → Run readers copies s later
    → (i c : ℕ) → (later.reader i).stage ≡ within c → (v : ℕ) × (s.published ≤ v) × (later.copy c ≡ whole v)

-- 6, reader_goes_on: "A reader takes no lock and waits for nobody". In every state a reader has a step that takes it to another stage
abbrev pub ReaderGoesOn : Type 0
ReaderGoesOn =
    (readers copies : ℕ) (s : State) (i : ℕ) → i < readers
    → (t : State) × Step readers copies s t × ((t.reader i).stage ≢ (s.reader i).stage)

-- and other_by_publish: "entering starts over only where a publish falls between two loads of `current`". Between two states with two current copies there
-- is a publish. Of the first load of an enter this says nothing, as it may give anything
abbrev pub OtherByPublish : Type 0
OtherByPublish = (readers copies : ℕ) (s t : State) → Run readers copies s t → t.current ≢ s.current → s.published < t.published

-- the steps can be taken: in a run of one reader and two copies a publish falls between the reader's two loads, so it starts over; another one is done
-- while it reads table 1 twice; and its next section, which no publish falls into, has table 2: a_run
abbrev pub ARun : Type 0
ARun =
    (s : State) × Run 1 2 opened s
    × ((s.reader 0).sections
    ≡ record { started = 2; reads = whole 2 ∷ [] } ∷ record { started = 0; reads = whole 1 ∷ whole 1 ∷ [] } ∷ [])
