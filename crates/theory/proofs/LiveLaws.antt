-- Laws of flow_live.h's steps: what every state keeps (Sound), that every step keeps it, and the claims from it. That a copy is free is a count.
use mathlib.Core.Path.{◌≡◌, refl, sym, ap, ◌∙◌, subst}
use mathlib.Core.Logic.{◌≢◌}
use mathlib.Core.Bool.{Bool, true, false, not, ◌||◌, true≢false, false≢true}
use mathlib.Core.List.{List, [], ◌∷◌}
use Prim.Native.Nat.{ℕ, zero, suc, ◌+◌, ◌≤◌, ◌<◌}
use native.Mathlib.Omega.{arith}
use lib.Dec.{eqb}
use borrow.Author.Tests.{eqb-true, eqb-false, eq-eqb, ne_eqb}
use lib.ListN.{length}
use Rattle.theory.specs.Lists.{filter, all, has, All}
use Rattle.theory.specs.Live.{Contents, whole, Stage, outside, loaded, stored, within, Away, Section, Reader}
use Rattle.theory.specs.Live.{Writer, idle, looking, writing, written, State, opened}
use Rattle.theory.specs.Live.{put, with_reader, noted, with_writer, with_copy, Free, Step, Run, start, then}
use Rattle.theory.specs.Live.{loads, stores, enters, starts_over, reads, leaves, clears, begins, looks, picks, drops, writes, publishes}
use Rattle.theory.specs.Live.{NoRace, OneTableEach, SectionsWhole, NeverWaits, WaitsForAll, settled, SettledForGood, ReaderGoesOn, OtherByPublish, ARun}
use Rattle.theory.proofs.ListLaws.{by_test, and_left, and_right, or_left, or_right, has_grown}

-- ---- a reader's sections
older : (v w : ℕ) (l : List Section) → v ≤ w → OneTableEach v l → OneTableEach w l
older v w [] h o = tt
older v w (t ∷ ts) h o = (o.0, omega (arith, o.1), o.2, o.3, o.4)

-- the first is under way with table v
abbrev Of : ℕ → List Section → Type 0
Of v [] = Unit {0}
Of v (t ∷ ts) = (t.started ≤ v) × All (λ x. x ≡ whole v) t.reads × OneTableEach v ts

-- the first is being entered, at most v publishes were done when it started, and no other has a later table
abbrev Unread : ℕ → List Section → Type 0
Unread v [] = Unit {0}
Unread v (t ∷ ts) = (t.started ≤ v) × (t.reads ≡ []) × OneTableEach v ts

unread_older : (v w : ℕ) (l : List Section) → v ≤ w → Unread v l → Unread w l
unread_older v w [] h o = tt
unread_older v w (t ∷ ts) h o = (omega (arith, o.0), o.1, older v w ts h o.2)

of_unread : (v : ℕ) (l : List Section) → Unread v l → Of v l
of_unread v [] o = tt
of_unread v (t ∷ ts) o = (o.0, rw o.1 tt, o.2)

of_noted : (v : ℕ) (x : Contents) (l : List Section) → x ≡ whole v → Of v l → Of v (noted x l)
of_noted v x [] e o = tt
of_noted v x (t ∷ ts) e o = (o.0, (e, o.1), o.2)

of_ended : (v w : ℕ) (l : List Section) → v ≤ w → Of v l → OneTableEach w l
of_ended v w [] h o = tt
of_ended v w (t ∷ ts) h o = (v, h, o.0, o.1, o.2)

-- ---- what every state keeps
-- reader i, in a section with copy c, is safe: a writer that has asked it knows of it, or c is current; and the copy that is written is another
abbrev Safe : Writer → ℕ → ℕ → ℕ → Type 0
Safe idle current i c = Unit {0}
Safe (looking seen) current i c = i < length seen → c ≢ current → has (1 + c) seen ≡ true
Safe (writing d) current i c = c ≢ d
Safe (written d) current i c = c ≢ d

-- reader i in a section with copy c: it has said so, the copy holds a table that was published, and that no publish takes from it
record Within (readers floor current : ℕ) (copy : ℕ → Contents) (writer : Writer) (published i c inside : ℕ) (sections : List Section) : Type 0 where
  one_of : i < readers
  told : inside ≡ 1 + c
  table : ℕ
  holds : copy c ≡ whole table
  done : table ≤ published
  enough : floor ≤ table
  section : Of table sections
  safe : Safe writer current i c

-- the same of another floor, with other sections of that table
within_with : {readers floor other current : ℕ} {copy : ℕ → Contents} {writer : Writer} {published i c inside : ℕ} {l more : List Section}
    → (h : Within readers floor current copy writer published i c inside l) → other ≤ h.table → Of h.table more
    → Within readers other current copy writer published i c inside more
within_with h enough section =
    record {
      one_of = h.one_of;
      told = h.told;
      table = h.table;
      holds = h.holds;
      done = h.done;
      enough = enough;
      section = section;
      safe = h.safe;
    }

abbrev ReaderKeeps : (readers floor current : ℕ) (copy : ℕ → Contents) (writer : Writer) (published i inside : ℕ) → List Section → Stage → Type 0
ReaderKeeps readers floor current copy writer published i inside l outside = OneTableEach published l
ReaderKeeps readers floor current copy writer published i inside l (loaded c) = (i < readers) × Unread published l
ReaderKeeps readers floor current copy writer published i inside l (stored c) = (i < readers) × (inside ≡ 1 + c) × Unread published l
ReaderKeeps readers floor current copy writer published i inside l (within c) = Within readers floor current copy writer published i c inside l

abbrev WriterKeeps : (current : ℕ) (copy : ℕ → Contents) (published : ℕ) → Writer → Type 0
WriterKeeps current copy published idle = Unit {0}
WriterKeeps current copy published (looking seen) = Unit {0}
WriterKeeps current copy published (writing d) = d ≢ current
WriterKeeps current copy published (written d) = (d ≢ current) × (copy d ≡ whole (published + 1))

abbrev Keeps : ℕ → ℕ → State → ℕ → Reader → Stage → Type 0
Keeps readers floor s i r x = ReaderKeeps readers floor s.current s.copy s.writer s.published i r.inside r.sections x

-- a state that steps lead to; no section under way has a table from before publish number floor, which is 0 but after flow_live_settled said yes
record Sound (readers floor : ℕ) (s : State) : Type 0 where
  each : (i : ℕ) → Keeps readers floor s i (s.reader i) (s.reader i).stage
  one : WriterKeeps s.current s.copy s.published s.writer
  now : s.copy s.current ≡ whole s.published
  enough : floor ≤ s.published

sound_opened : (readers : ℕ) → Sound readers 0 opened
sound_opened readers = record { each = λ i. tt; one = tt; now = refl; enough = omega arith }

-- ---- a step of a reader alters its own part alone
module _ {readers floor : ℕ} {s : State} (k : Sound readers floor s) where
  by_reader : (i : ℕ) (r : Reader) → Keeps readers floor s i r r.stage → Sound readers floor (with_reader s i r)
  by_reader i r h =
      record {
        each = λ j. by_test (eqb j i) (λ t. rw (t, eqb-true j i t) h) (λ t. rw t (k.each j));
        one = k.one;
        now = k.now;
        enough = k.enough;
      }

  at : (i : ℕ) (x : Stage) → (s.reader i).stage ≡ x → Keeps readers floor s i (s.reader i) x
  at i x e = subst (λ (y : Stage). Keeps readers floor s i (s.reader i) y) e (k.each i)

  -- a section that starts with the current copy is safe from any writer
  safe_current : (w : Writer) (i c : ℕ) → s.current ≡ c → WriterKeeps s.current s.copy s.published w → Safe w s.current i c
  safe_current idle i c e h = tt
  safe_current (looking seen) i c e h = λ l other. absurd (other (sym e))
  safe_current (writing d) i c e h = λ same. h (sym (e ∙ same))
  safe_current (written d) i c e h = λ same. h.0 (sym (e ∙ same))

  entered : (i c : ℕ) → s.current ≡ c → Keeps readers floor s i (s.reader i) (stored c) → Keeps readers floor s i (s.reader i) (within c)
  entered i c e h =
      record {
        one_of = h.0;
        told = h.1;
        table = s.published;
        holds = rw (← e) k.now;
        done = omega arith;
        enough = k.enough;
        section = of_unread s.published (s.reader i).sections h.2;
        safe = safe_current s.writer i c e k.one;
      }

  has_read : (i c : ℕ) → Keeps readers floor s i (s.reader i) (within c)
      → Within readers floor s.current s.copy s.writer s.published i c (s.reader i).inside (noted (s.copy c) (s.reader i).sections)
  has_read i c h = within_with h h.enough (of_noted h.table (s.copy c) (s.reader i).sections h.holds h.section)

  -- what it stores in `inside` while it is away nobody relies on
  cleared : (i : ℕ) (x : Stage) → Away x → Keeps readers floor s i (s.reader i) x
      → ReaderKeeps readers floor s.current s.copy s.writer s.published i 0 (s.reader i).sections x
  cleared i outside away h = h
  cleared i (loaded c) away h = h
  cleared i (stored c) away h = absurd away
  cleared i (within c) away h = absurd away

-- ---- a step of the writer alters what all readers look at: what a reader in a section relies on is all that there is to show
record Follows (readers floor : ℕ) (s t : State) : Type 0 where
  same : (i : ℕ) → t.reader i ≡ s.reader i
  more : s.published ≤ t.published
  one : WriterKeeps t.current t.copy t.published t.writer
  now : t.copy t.current ≡ whole t.published
  held : (i c : ℕ) → Keeps readers floor s i (s.reader i) (within c) → t.copy c ≡ s.copy c
  safe : (i c : ℕ) → Keeps readers floor s i (s.reader i) (within c) → Safe t.writer t.current i c

module _ {readers floor : ℕ} {s t : State} (k : Sound readers floor s) (f : Follows readers floor s t) where
  kept : (i : ℕ) (x : Stage) → Keeps readers floor s i (s.reader i) x → Keeps readers floor t i (s.reader i) x
  kept i outside h = older s.published t.published (s.reader i).sections f.more h
  kept i (loaded c) h = (h.0, unread_older s.published t.published (s.reader i).sections f.more h.1)
  kept i (stored c) h = (h.0, h.1, unread_older s.published t.published (s.reader i).sections f.more h.2)
  kept i (within c) h =
      record {
        one_of = h.one_of;
        told = h.told;
        table = h.table;
        holds = f.held i c h ∙ h.holds;
        done = omega (arith, h.done, f.more);
        enough = h.enough;
        section = h.section;
        safe = f.safe i c h;
      }

  by_writer : Sound readers floor t
  by_writer =
      record {
        each = λ i. subst (λ (r : Reader). Keeps readers floor t i r r.stage) (sym (f.same i)) (kept i (s.reader i).stage (k.each i));
        one = f.one;
        now = f.now;
        enough = omega (arith, k.enough, f.more);
      }

-- ---- the writer's steps
module _ {readers floor : ℕ} {s : State} (k : Sound readers floor s) where
  writer_at : (x : Writer) → s.writer ≡ x → WriterKeeps s.current s.copy s.published x
  writer_at x e = subst (WriterKeeps s.current s.copy s.published) e k.one

  safe_at : (x : Writer) → s.writer ≡ x → (i c : ℕ) → Keeps readers floor s i (s.reader i) (within c) → Safe x s.current i c
  safe_at x e i c h = subst (λ (w : Writer). Safe w s.current i c) e h.safe

  -- it looks about, and alters nothing
  looked : (w : Writer) → WriterKeeps s.current s.copy s.published w
      → ((i c : ℕ) → Keeps readers floor s i (s.reader i) (within c) → Safe w s.current i c) → Sound readers floor (with_writer s w)
  looked w one safe =
      by_writer k (record { same = λ i. refl; more = omega arith; one = one; now = k.now; held = λ i c h. refl; safe = safe })

  -- one more reader is asked: it says where it is
  asked : (seen : List ℕ) → s.writer ≡ looking seen → (i c : ℕ) → Keeps readers floor s i (s.reader i) (within c)
      → Safe (looking ((s.reader (length seen)).inside ∷ seen)) s.current i c
  asked seen e i c h before other =
      by_test (eqb i (length seen))
      (λ t. rw (← eqb-true i (length seen) t, h.told, eq-eqb (1 + c) (1 + c) refl))
      (λ t. has_grown (1 + c) (s.reader (length seen)).inside seen (safe_at (looking seen) e i c h (omega (arith, eqb-false i (length seen) t)) other))

  -- a copy that no reader is in and that is not current is written, to x
  filled : (d : ℕ) (x : Contents) (w : Writer) → d ≢ s.current
      → WriterKeeps s.current (put s.copy d x) s.published w
      → ((i c : ℕ) → Keeps readers floor s i (s.reader i) (within c) → c ≢ d)
      → ((i c : ℕ) → c ≢ d → Safe w s.current i c)
      → Sound readers floor (with_copy s d x w)
  filled d x w other one apart safe =
      by_writer k (
      record {
        same = λ i. refl;
        more = omega arith;
        one = one;
        now = rw (ne_eqb s.current d (λ e. other (sym e))) k.now;
        held = λ i c h. rw (ne_eqb c d (apart i c h));
        safe = λ i c h. safe i c (apart i c h);
      }
      )

  -- every reader was asked: one that is in copy d would have been seen there
  unseen : (copies : ℕ) (seen : List ℕ) (d : ℕ) → s.writer ≡ looking seen → length seen ≡ readers → Free copies s seen d
      → (i c : ℕ) → Keeps readers floor s i (s.reader i) (within c) → c ≢ d
  unseen copies seen d e all free i c h same =
      let seen_there = safe_at (looking seen) e i c h (omega (arith, h.one_of)) (λ q. free.not_current (sym same ∙ q)) in
      true≢false (sym seen_there ∙ ap (λ (n : ℕ). has (1 + n) seen) same ∙ free.not_seen)

-- ---- every step keeps it
step_keeps : {readers floor copies : ℕ} {s t : State} → Sound readers floor s → Step readers copies s t → Sound readers floor t
step_keeps {s = s} k (loads i c one_of e) =
    by_reader k i _ (one_of, (omega arith, refl, at k i outside e))
step_keeps k (stores i c e) = let h = at k i (loaded c) e in by_reader k i _ (h.0, refl, h.1)
step_keeps k (enters i c e same) = by_reader k i _ (entered k i c same (at k i (stored c) e))
step_keeps k (starts_over i c e other) = let h = at k i (stored c) e in by_reader k i _ (h.0, h.2)
step_keeps {s = s} k (reads i c e) = by_reader k i _ (rw e (has_read k i c (at k i (within c) e)))
step_keeps {s = s} k (leaves i c e) =
    let h = at k i (within c) e in by_reader k i _ (of_ended h.table s.published (s.reader i).sections h.done h.section)
step_keeps {s = s} k (clears i away) = by_reader k i _ (cleared k i (s.reader i).stage away (k.each i))
step_keeps k (begins e) = looked k (looking []) tt (λ i c h before. absurd (omega arith))
step_keeps {s = s} k (looks seen e few) = looked k (looking ((s.reader (length seen)).inside ∷ seen)) tt (asked k seen e)
step_keeps {copies = copies} k (picks seen c e all free) =
    filled k c _ (writing c) free.not_current free.not_current (unseen k copies seen c e all free) (λ i d apart. apart)
step_keeps k (drops seen e) = looked k idle tt (λ i c h. tt)
step_keeps {s = s} k (writes c e) =
    filled k c _ (written c) (writer_at k (writing c) e) (writer_at k (writing c) e, rw (eq-eqb c c refl)) (safe_at k (writing c) e) (λ i d apart. apart)
step_keeps {s = s} k (publishes c e) =
    by_writer k (
    record {
      same = λ i. refl;
      more = omega arith;
      one = tt;
      now = (writer_at k (written c) e).1;
      held = λ i d h. refl;
      safe = λ i d h. tt;
    }
    )

run_keeps : {readers floor copies : ℕ} {s t : State} → Sound readers floor s → Run readers copies s t → Sound readers floor t
run_keeps k start = k
run_keeps k (then run step) = step_keeps (run_keeps k run) step

-- ---- the claims on sections
pub no_race : NoRace
no_race readers copies s run i c e is =
    let k = run_keeps (sound_opened readers) run in
    safe_at k (writing c) e i c (at k i (within c) is) refl

pub sections_whole : SectionsWhole
sections_whole readers copies s run i = each (s.reader i).stage ((run_keeps (sound_opened readers) run).each i)
  where
    p : ℕ
    p = s.published

    l : List Section
    l = (s.reader i).sections

    each : (x : Stage) → Keeps readers 0 s i (s.reader i) x → OneTableEach p l
    each outside h = h
    each (loaded c) h = of_ended p p l (omega arith) (of_unread p l h.1)
    each (stored c) h = of_ended p p l (omega arith) (of_unread p l h.2)
    each (within c) h = of_ended h.table p l h.done h.section

-- ---- settled: a section with another copy than the current one would have been seen
all_passes : (p : ℕ → Bool) (b : ℕ) (l : List ℕ) → all p l ≡ true → has b l ≡ true → p b ≡ true
all_passes p b [] h e = absurd (false≢true e)
all_passes p b (x ∷ xs) h e =
    by_test (eqb b x) (λ t. rw (eqb-true b x t) (and_left (p x) (all p xs) h))
    (λ t. all_passes p b xs (and_right (p x) (all p xs) h) (rw t at e))

module _ {readers : ℕ} {s : State} (k : Sound readers 0 s) (seen : List ℕ) (e : s.writer ≡ looking seen) (all_Asked : length seen ≡ readers)
    (answer : settled s seen ≡ true) where
  in_current : (i c : ℕ) → Keeps readers 0 s i (s.reader i) (within c) → c ≡ s.current
  in_current i c h = by_test (eqb c s.current) (eqb-true c s.current) (λ t. absurd (elsewhere (eqb-false c s.current t)))
    where
      elsewhere : c ≢ s.current → ⊥
      elsewhere other =
          let seen_there = safe_at k (looking seen) e i c h (omega (arith, h.one_of)) other in
          let passes = all_passes (λ n. eqb n 0 || eqb n (1 + s.current)) (1 + c) seen answer seen_there in
          let unequal : 1 + c ≢ 1 + s.current = λ q. other (omega arith) in
          true≢false (sym passes ∙ rw (ne_eqb (1 + c) 0 (omega arith), ne_eqb (1 + c) (1 + s.current) unequal))

  has_last : (i : ℕ) (x : Stage) → Keeps readers 0 s i (s.reader i) x → Keeps readers s.published s i (s.reader i) x
  has_last i outside h = h
  has_last i (loaded c) h = h
  has_last i (stored c) h = h
  has_last i (within c) h =
      let last : s.copy c ≡ whole s.published = rw (in_current i c h) k.now in
      let same : h.table ≡ s.published = cc h.holds in
      within_with h (omega arith) h.section

  sound_settled : Sound readers s.published s
  sound_settled = record { each = λ i. has_last i (s.reader i).stage (k.each i); one = k.one; now = k.now; enough = omega arith }

pub settled_for_good : SettledForGood
settled_for_good readers copies s run seen e all_Asked answer later more i c is =
    let k = run_keeps (sound_settled (run_keeps (sound_opened readers) run) seen e all_Asked answer) more in
    let h = at k i (within c) is in (h.table, h.enough, h.holds)

-- ---- fewer numbers than copies leave a copy out
without : ℕ → List ℕ → List ℕ
without b l = filter (λ x. not (eqb b x)) l

without_length : (b : ℕ) (l : List ℕ) → length (without b l) ≤ length l
unfolding without
without_length b [] = omega arith
without_length b (x ∷ xs) = let h = without_length b xs in by_test (eqb b x) (λ t. rw t (omega arith)) (λ t. rw t (omega arith))

without_shorter : (b : ℕ) (l : List ℕ) → has b l ≡ true → length (without b l) < length l
unfolding without
without_shorter b [] e = absurd (false≢true e)
without_shorter b (x ∷ xs) e =
    by_test (eqb b x) (λ t. rw t (omega (arith, without_length b xs))) (λ t. rw t (omega (arith, without_shorter b xs (rw t at e))))

without_others : (b c : ℕ) (l : List ℕ) → c ≢ b → has c (without b l) ≡ has c l
unfolding without
without_others b c [] other = refl
without_others b c (x ∷ xs) other =
    by_test (eqb b x)
    (λ t. rw (t, ne_eqb c x (λ q. other (q ∙ sym (eqb-true b x t)))) (without_others b c xs other))
    (λ t. rw t (ap (λ (y : Bool). eqb c x || y) (without_others b c xs other)))

left_out : (n : ℕ) (l : List ℕ) → length l < n → (c : ℕ) × (c < n) × (has (1 + c) l ≡ false)
left_out zero l h = absurd (omega arith)
left_out (suc n) l h =
    by_test (has (1 + n) l) (λ t. let shorter = without_shorter (1 + n) l t in below (left_out n (without (1 + n) l) (omega arith))) (λ t. (n, omega arith, t))
  where
    below : (c : ℕ) × (c < n) × (has (1 + c) (without (1 + n) l) ≡ false) → (c : ℕ) × (c < suc n) × (has (1 + c) l ≡ false)
    below r = (r.0, omega (arith, r.1), sym (without_others (1 + n) (1 + r.0) l (λ q. omega (arith, r.1))) ∙ r.2)

free_copy : (copies : ℕ) (s : State) (seen : List ℕ) (c : ℕ) → c < copies → has (1 + c) ((1 + s.current) ∷ seen) ≡ false → Free copies s seen c
free_copy copies s seen c in_range e =
    let other : 1 + c ≢ 1 + s.current = eqb-false (1 + c) (1 + s.current) (or_left (eqb (1 + c) (1 + s.current)) (has (1 + c) seen) e) in
    record {
      in_range = in_range;
      not_current = λ q. other (ap (λ (n : ℕ). 1 + n) q);
      not_seen = or_right (eqb (1 + c) (1 + s.current)) (has (1 + c) seen) e;
    }

pub never_waits : NeverWaits
never_waits readers copies s seen all_Asked more =
    let r = left_out copies ((1 + s.current) ∷ seen) (omega arith) in (r.0, free_copy copies s seen r.0 r.1 r.2)

pub waits_for_all : WaitsForAll
waits_for_all copies s seen none c in_range other =
    by_test (has (1 + c) seen) (λ t. t) (λ t. absurd (none c (record { in_range = in_range; not_current = other; not_seen = t })))

-- ---- a reader goes on
pub reader_goes_on : ReaderGoesOn
reader_goes_on readers copies s i one_of = go (s.reader i).stage refl
  where
    to : (r : Reader) → (x : Stage) → (s.reader i).stage ≡ x → r.stage ≢ x → ((with_reader s i r).reader i).stage ≢ (s.reader i).stage
    to r x e other = rw (eq-eqb i i refl, e) other

    go : (x : Stage) → (s.reader i).stage ≡ x → (t : State) × Step readers copies s t × ((t.reader i).stage ≢ (s.reader i).stage)
    go outside e = (_, loads i 0 one_of e, to _ outside e (λ q. let z : ◌≡◌ {A = ℕ} 0 1 = cc in omega arith))
    go (loaded c) e = (_, stores i c e, to _ (loaded c) e (λ q. let z : ◌≡◌ {A = ℕ} 0 1 = cc in omega arith))
    go (stored c) e =
        by_test (eqb s.current c)
        (λ t. (_, enters i c e (eqb-true s.current c t), to _ (stored c) e (λ q. let z : ◌≡◌ {A = ℕ} 0 1 = cc in omega arith)))
        (λ t. (_, starts_over i c e (eqb-false s.current c t), to _ (stored c) e (λ q. let z : ◌≡◌ {A = ℕ} 0 1 = cc in omega arith)))
    go (within c) e = (_, leaves i c e, to _ (within c) e (λ q. let z : ◌≡◌ {A = ℕ} 0 1 = cc in omega arith))

-- ---- the current copy is another after a publish alone
record Goes (s t : State) : Type 0 where
  up : s.published ≤ t.published
  same : t.published ≡ s.published → t.current ≡ s.current

unmoved : {s t : State} → t.published ≡ s.published → t.current ≡ s.current → Goes s t
unmoved n e = record { up = omega arith; same = λ m. e }

step_goes : {readers copies : ℕ} {s t : State} → Step readers copies s t → Goes s t
step_goes (loads i c one_of e) = unmoved refl refl
step_goes (stores i c e) = unmoved refl refl
step_goes (enters i c e same) = unmoved refl refl
step_goes (starts_over i c e other) = unmoved refl refl
step_goes (reads i c e) = unmoved refl refl
step_goes (leaves i c e) = unmoved refl refl
step_goes (clears i away) = unmoved refl refl
step_goes (begins e) = unmoved refl refl
step_goes (looks seen e few) = unmoved refl refl
step_goes (picks seen c e all free) = unmoved refl refl
step_goes (drops seen e) = unmoved refl refl
step_goes (writes c e) = unmoved refl refl
step_goes (publishes c e) = record { up = omega arith; same = λ n. absurd (omega arith) }

run_goes : {readers copies : ℕ} {s t : State} → Run readers copies s t → Goes s t
run_goes start = record { up = omega arith; same = λ n. refl }
run_goes (then run step) =
    let before = run_goes run in
    let last = step_goes step in
    record { up = omega arith; same = λ n. last.same (omega arith) ∙ before.same (omega arith) }

pub other_by_publish : OtherByPublish
other_by_publish readers copies s t run other =
    let h = run_goes run in
    by_test (eqb t.published s.published) (λ e. absurd (other (h.same (eqb-true t.published s.published e))))
    (λ e. omega (arith, h.up, eqb-false t.published s.published e))

-- ---- a run
some : 0 < 1
some = omega arith

0-not-1 : ◌≢◌ {A = ℕ} 0 1
0-not-1 e = omega arith

1-not-0 : ◌≢◌ {A = ℕ} 1 0
1-not-0 e = omega arith

pub a_run : ARun
a_run =
    let opens : Run 1 2 opened opened = start in
    let asks = then (then (then opens (loads 0 0 some refl)) (begins refl)) (looks [] refl some) in
    let takes_1 = then asks (picks (0 ∷ []) 1 refl refl (record { in_range = omega arith; not_current = 1-not-0; not_seen = refl })) in
    let has_1 = then (then (then takes_1 (stores 0 0 refl)) (writes 1 refl)) (publishes 1 refl) in
    let is_in_1 = then (then (then has_1 (starts_over 0 0 refl 1-not-0)) (stores 0 1 refl)) (enters 0 1 refl refl) in
    let asks_again = then (then (then is_in_1 (reads 0 1 refl)) (begins refl)) (looks [] refl some) in
    let takes_0 = then asks_again (picks (2 ∷ []) 0 refl refl (record { in_range = omega arith; not_current = 0-not-1; not_seen = refl })) in
    let has_2 = then (then (then takes_0 (reads 0 1 refl)) (writes 0 refl)) (publishes 0 refl) in
    let is_out = then (then (then has_2 (leaves 0 1 refl)) (loads 0 1 some refl)) (clears 0 tt) in
    let turns = then (then (then is_out (stores 0 1 refl)) (starts_over 0 1 refl 0-not-1)) (stores 0 0 refl) in
    (_, then (then turns (enters 0 0 refl refl)) (reads 0 0 refl), refl)
