-- Laws of snapshots: what was saved loads to the same settings and flows, a file that loads is the one that saving then writes, and a file's head says the
-- settings that it loads with.
use mathlib.Core.Path.{◌≡◌, refl, sym, ap, ◌∙◌}
use mathlib.Core.Logic.{◌≢◌}
use mathlib.Core.Bool.{Bool, true, false, cond, not, ◌||◌}
use mathlib.Core.List.{List, [], ◌∷◌, ◌++◌, map, append_assoc, append-nil}
use Prim.Native.Nat.{ℕ, zero, suc, ◌+◌, ◌*◌, ◌≤◌, ◌<◌}
use native.Mathlib.Nat.{zero-add, mul_comm, le_of_eq}
use native.Mathlib.Omega.{arith}
use lib.Dec.{ltb, eqb, lit<}
use borrow.Author.Tests.{ltb-false, le-ltb, eqb-true, eq-eqb, ne_eqb, not-false}
use lib.ListN.{length, take, drop, get_or, length-append, length-drop, take-append-drop}
use lib.Seq.{take_at, drop_at, take_all, drop-drop}
use Rattle.theory.specs.Lists.{all, All, flat, upto}
use Rattle.theory.specs.Records.{Record, to_bytes, of_bytes, count_of, record_bytes, entries, records, rising}
use Rattle.theory.specs.Settings.{Settings, ipv4_width, allowed, Card, card_of, record_size, ledger_length, work_length, settings_in}
use Rattle.theory.specs.Layout.{Areas, layout, layout_by, counted_places}
use Rattle.theory.specs.Ledger.{side_short}
use Rattle.theory.specs.Calls.{ledger_records, ledger_invalid, all_lengths}
use Rattle.theory.specs.Snapshot.{section, settings_list, settings_count, first_count, head_size, snapshot, Saved, save}
use Rattle.theory.specs.Snapshot.{Loaded, file_settings, file_count, file_records, head_wrong, body_wrong, load}
use Rattle.theory.specs.Snapshot.{head_refusal, head_settings}
use Rattle.theory.specs.Demands.{Byte, HasLayout, Sized, LoadSave, SaveLoad, HeadLoad, HeadSave, HeadSizes, HandedOn}
use Rattle.theory.proofs.ListLaws.{by_test, getD_map_upto, all_every, all_each, all_map, all_drop, length_flat, or_left, or_right}
use Rattle.theory.proofs.SettingsLaws.{ranges, sound}
use Rattle.theory.proofs.ByteLaws.{length_to_bytes, of_to_bytes, to_of_bytes, length_record, read_entries, write_entries, length_records, read_records}
use Rattle.theory.proofs.ByteLaws.{records_fit, write_records}
use Rattle.theory.proofs.CallLaws.{sized, enough, not_enough, valid_has_layout, ledger_back, not_invalid}
use Rattle.theory.proofs.Demands.{all_lengths_right}

-- a test that failed, since the answer's number is 0
passed : {X : Type 0} (f : X → ℕ) (t : Bool) {a b : X} → (f a ≡ 0 → ⊥) → f (cond t a b) ≡ 0 → (t ≡ false) × (f b ≡ 0)
passed f true n e = absurd (n e)
passed f false n e = (refl, e)

-- ---- the head of a file: its two-byte numbers
abbrev word : List ℕ → ℕ
word a = of_bytes (take 2 a)

abbrev pub head : Settings → ℕ → List ℕ
head t n = first_count t ∷ take (first_count t) (settings_list t) ++ (n ∷ [])

-- a fact of a first count holds of that of settings if it holds of 6, with keys of 13 bytes, and of 7
pub by_width : (t : Settings) (P : ℕ → Type 0) → (t.width ≡ ipv4_width → P 6) → P 7 → P (first_count t)
unfolding first_count
by_width t P six seven = by_test (eqb t.width ipv4_width) (λ e. rw e (six (eqb-true t.width ipv4_width e))) (λ e. rw e seven)

pub first_of_ipv4 : (t : Settings) → t.width ≡ ipv4_width → first_count t ≡ 6
unfolding first_count
first_of_ipv4 t e = rw (eq-eqb t.width ipv4_width e)

pub first_of_other : (t : Settings) → (t.width ≡ ipv4_width → ⊥) → first_count t ≡ settings_count
unfolding first_count
first_of_other t e = rw (ne_eqb t.width ipv4_width e)

-- not 6, so 7
pub not_six : (t : Settings) → (first_count t ≡ 6 → ⊥) → first_count t ≡ settings_count
not_six t = by_width t (λ c. (c ≡ 6 → ⊥) → c ≡ settings_count) (λ e other. absurd (other refl)) (λ other. refl)

pub first_count_least : (t : Settings) → 6 ≤ first_count t
first_count_least t = by_width t (λ c. 6 ≤ c) (λ e. omega arith) (omega arith)

pub first_count_most : (t : Settings) → first_count t ≤ settings_count
first_count_most t = by_width t (λ c. c ≤ settings_count) (λ e. omega arith) (omega arith)

pub known_count : (t : Settings) → (eqb (first_count t) 6 || eqb (first_count t) 7) ≡ true
known_count t = by_width t (λ c. (eqb c 6 || eqb c 7) ≡ true) (λ e. refl) refl

-- number i of a file, and the first of them, as many as a head has
abbrev number : List ℕ → ℕ → ℕ
number f i = word (drop (2 * i) f)

abbrev words : ℕ → List ℕ → List ℕ
words c f = entries 2 word (2 + c) f

words_from : (n a : ℕ) (f : List ℕ) → entries 2 word n (drop (2 * a) f) ≡ map (number f) (upto a n)
unfolding entries
words_from zero a f = refl
words_from (suc n) a f =
    let next : 2 * a + 2 ≡ 2 * suc a = omega arith in
    rw (drop-drop 2 (2 * a) f, next) (ap (λ (l : List ℕ). number f a ∷ l) (words_from n (suc a) f))

words_are : (c : ℕ) (f : List ℕ) → words c f ≡ map (number f) (upto 0 (2 + c))
words_are c f = words_from (2 + c) 0 f

pub snapshot_is : (t : Settings) (l : List Record) → snapshot t l ≡ flat (to_bytes 2) (head t (length l)) ++ flat record_bytes l
unfolding snapshot section
snapshot_is t l =
    by_width t (λ c. section (to_bytes 2) (take c (settings_list t)) ++ section record_bytes l
    ≡ flat (to_bytes 2) (c ∷ take c (settings_list t) ++ (length l ∷ [])) ++ flat record_bytes l) (λ e. simp append_assoc) (simp append_assoc)

pub length_words : (ns : List ℕ) → length (flat (to_bytes 2) ns) ≡ 2 * length ns
length_words ns = length_flat (to_bytes 2) 2 ns (all_every (λ n. length_to_bytes 2 n) ns)

pub length_head : (t : Settings) (n : ℕ) → length (head t n) ≡ 2 + first_count t
length_head t n = by_width t (λ c. length (c ∷ take c (settings_list t) ++ (n ∷ [])) ≡ 2 + c) (λ e. refl) refl

pub head_long : (t : Settings) (n : ℕ) → length (flat (to_bytes 2) (head t n)) ≡ head_size (first_count t)
head_long t n = length_words (head t n) ∙ ap (λ (k : ℕ). 2 * k) (length_head t n) ∙ omega arith

read_words : (ns rest : List ℕ) → All (λ n. n < 65536) ns → entries 2 word (length ns) (flat (to_bytes 2) ns ++ rest) ≡ ns
read_words ns rest h =
    read_entries 2 word (to_bytes 2) ns rest
    (all_map (λ n f. (length_to_bytes 2 n, λ more. rw (take_at (to_bytes 2 n) more 2 (length_to_bytes 2 n)) (of_to_bytes 2 n f))) ns h)

-- a file whose head is that of settings and a count says them
module _ (t : Settings) (n : ℕ) (f : List ℕ) (is : words (first_count t) f ≡ head t n) where
  number_is : (i : ℕ) → i < 2 + first_count t → number f i ≡ get_or (head t n) i 0
  number_is i h =
      sym (ap (λ (l : List ℕ). get_or l i 0) (words_are (first_count t) f) ∙ getD_map_upto (number f) 0 (2 + first_count t) i 0 h ∙ ap (number f) (zero-add i))
      ∙ ap (λ (l : List ℕ). get_or l i 0) is

  first_is : count_of f ≡ first_count t
  first_is = number_is 0 (omega arith)

  settings_are : file_settings f ≡ t
  unfolding file_settings
  settings_are =
      by_width t (λ c. count_of f ≡ c → ((i : ℕ) → i < 2 + c → number f i ≡ get_or (c ∷ take c (settings_list t) ++ (n ∷ [])) i 0) → file_settings f ≡ t)
      (λ six c at. rw (c, at 1 (lit< tt), at 2 (lit< tt), at 3 (lit< tt), at 4 (lit< tt), at 5 (lit< tt), at 6 (lit< tt), ← six))
      (λ c at. rw (c, at 1 (lit< tt), at 2 (lit< tt), at 3 (lit< tt), at 4 (lit< tt), at 5 (lit< tt), at 6 (lit< tt), at 7 (lit< tt)))
      first_is number_is

  second_is : file_count f ≡ n
  unfolding file_count
  second_is =
      by_width t (λ c. count_of f ≡ c → ((i : ℕ) → i < 2 + c → number f i ≡ get_or (c ∷ take c (settings_list t) ++ (n ∷ [])) i 0) → file_count f ≡ n)
      (λ six c at. rw (c, at 7 (lit< tt))) (λ c at. rw (c, at 8 (lit< tt)))
      first_is number_is

module _ (t : Settings) (ok : allowed t ≡ true) (l : List Record) (g : HasLayout (card_of t) l) where
  small_head : All (λ n. n < 65536) (head t (length l))
  small_head =
      let r = ranges t ok in
      let few : length l ≤ t.capacity = unfold card_of in g.few in
      by_width t (λ c. All (λ n. n < 65536) (c ∷ take c (settings_list t) ++ (length l ∷ [])))
      (λ e. (omega arith, (omega arith, (omega arith, (omega arith, (omega arith, (omega arith, (omega arith, (omega arith, tt)))))))))
      (omega arith, (omega arith, (omega arith, (omega arith, (omega arith, (omega arith, (omega arith, (omega arith, (omega arith, tt)))))))))

  head_back : words (first_count t) (snapshot t l) ≡ head t (length l)
  head_back =
      ap (λ (n : ℕ). entries 2 word n (snapshot t l)) (sym (length_head t (length l)))
      ∙ ap (entries 2 word (length (head t (length l)))) (snapshot_is t l)
      ∙ read_words (head t (length l)) (flat record_bytes l) small_head

  first_back : count_of (snapshot t l) ≡ first_count t
  first_back = first_is t (length l) (snapshot t l) head_back

  settings_back : file_settings (snapshot t l) ≡ t
  settings_back = settings_are t (length l) (snapshot t l) head_back

  second_back : file_count (snapshot t l) ≡ length l
  second_back = second_is t (length l) (snapshot t l) head_back

  records_length : length (flat record_bytes l) ≡ record_size (card_of t) * length l
  unfolding record_size
  records_length = length_flat record_bytes ((card_of t).width + 4) l (all_map (λ r f. length_record (card_of t).width r f) l g.fit)

  pub length_snapshot : length (snapshot t l) ≡ head_size (first_count t) + record_size (card_of t) * length l
  length_snapshot = rw (snapshot_is t l, length-append, head_long t (length l), records_length)

  records_back : file_records (snapshot t l) ≡ l
  unfolding file_records
  records_back =
      rw (settings_back, second_back, first_back, snapshot_is t l)
      (rw (drop_at (flat (to_bytes 2) (head t (length l))) (flat record_bytes l) (head_size (first_count t)) (head_long t (length l)))
      (ap (records (card_of t).width (length l)) (sym (append-nil (flat record_bytes l))) ∙ read_records (card_of t).width l [] g.fit))

  -- a snapshot loads: its settings, its list's layout
  pub load_snapshot : (a : Areas) → Sized (card_of t) a
      → load (snapshot t l) (work_length (card_of t)) a ≡ record { number = 0; settings = t; areas = layout (card_of t) l }
  unfolding load head_wrong body_wrong
  load_snapshot a z =
      let few : length l ≤ t.capacity = unfold card_of in g.few in
      let h = head_size (first_count t) in
      let whole = h + record_size (card_of t) * length l in
      rw (length_snapshot, first_back, settings_back, records_back, second_back, ok, known_count t)
      (rw (le-ltb whole h (omega arith), eq-eqb (work_length (card_of t)) (work_length (card_of t)) refl)
      (rw (all_lengths_right (card_of t) a z, le-ltb t.capacity (length l) few, eq-eqb (first_count t) (first_count t) refl)
      (rw (eq-eqb whole whole refl, g.order, not_enough (card_of t) l g.need))))

  -- the ledger of a layout is saved as the snapshot of its list
  pub save_layout : (target : List ℕ) → length target ≡ length (snapshot t l) → (a : List ℕ) → a ≡ counted_places (card_of t) (card_of t).capacity l
      → length a ≡ ledger_length (card_of t) → save t a (work_length (card_of t)) target ≡ record { number = 0; target = snapshot t l }
  unfolding save
  save_layout target e a is size =
      rw (ok, eq-eqb (work_length (card_of t)) (work_length (card_of t)) refl, eq-eqb (length a) (ledger_length (card_of t)) size, is)
      (rw (not_invalid (card_of t) (sound t ok) l g, ledger_back (card_of t) (sound t ok) l g, not_enough (card_of t) l g.need)
      (rw (eq-eqb (length target) (head_size (first_count t) + record_size (card_of t) * length l) (e ∙ length_snapshot))))

-- ---- LOAD-SAVE: a saved snapshot loads to the same settings and flows, into every area
module _ (t : Settings) (ledger : List ℕ) (w : ℕ) (target : List ℕ) (done : (save t ledger w target).number ≡ 0) where
  abbrev flows : List Record
  flows = ledger_records (card_of t) ledger

  -- what a save that is not refused has found
  record Saving : Type 0 where
    ok : allowed t ≡ true
    lengths : all (λ x. x) (eqb w (work_length (card_of t)) ∷ eqb (length ledger) (ledger_length (card_of t)) ∷ []) ≡ true
    valid : ledger_invalid (card_of t) ledger ≡ false
    need : side_short (card_of t) flows ≡ false
    wrote : (save t ledger w target).target ≡ snapshot t flows

  saving : Saving
  unfolding save
  saving =
      let a = passed (λ (x : Saved). x.number) (not (allowed t)) (λ q. omega arith) done in
      let b = passed (λ (x : Saved). x.number) (not (all (λ x. x) (eqb w (work_length (card_of t)) ∷ eqb (length ledger) (ledger_length (card_of t)) ∷ [])))
      (λ q. omega arith) a.1 in
      let c = passed (λ (x : Saved). x.number) (ledger_invalid (card_of t) ledger) (λ q. omega arith) b.1 in
      let d = passed (λ (x : Saved). x.number) (side_short (card_of t) flows) (λ q. omega arith) c.1 in
      let e = passed (λ (x : Saved). x.number) (not (eqb (length target) (head_size (first_count t) + record_size (card_of t) * length flows)))
      (λ q. omega arith) d.1 in
      record { ok = not-false (allowed t) a.0; lengths = not-false _ b.0; valid = c.0; need = d.0; wrote = rw (a.0, b.0, c.0, d.0, e.0) }

  flows_have_layout : All Byte ledger → HasLayout (card_of t) flows
  flows_have_layout bytes =
      let s = card_of t in
      let g = saving in
      let lengths = all_each (λ x. x) (eqb w (work_length s) ∷ eqb (length ledger) (ledger_length s) ∷ []) g.lengths in
      valid_has_layout s ledger bytes (eqb-true _ _ lengths.1.0) g.valid g.need

pub load_save : LoadSave
load_save t ledger w target done bytes a z =
    let g = saving t ledger w target done in
    rw g.wrote (load_snapshot t g.ok (flows t ledger w target done) (flows_have_layout t ledger w target done bytes) a z)

-- ---- SAVE-LOAD: a file that loads is the one that saving then writes
module _ (f : List ℕ) (w : ℕ) (a : Areas) (done : (load f w a).number ≡ 0) where
  abbrev t : Settings
  t = file_settings f

  abbrev s : Card
  s = card_of t

  -- its first count, and the bytes of its head
  abbrev c : ℕ
  c = count_of f

  abbrev h : ℕ
  h = head_size c

  -- what a load that is not refused has found
  record Loading : Type 0 where
    head : head_wrong f ≡ false
    known : (eqb c 6 || eqb c 7) ≡ true
    long : h ≤ length f
    ok : allowed t ≡ true
    few : file_count f ≤ t.capacity
    first : c ≡ first_count t
    size : length f ≡ h + record_size s * file_count f
    order : rising (file_records f) ≡ true
    need : side_short s (file_records f) ≡ false
    wrote : load f w a ≡ record { number = 0; settings = t; areas = layout s (file_records f) }

  loading : Loading
  unfolding load head_wrong body_wrong
  loading =
      let n : Loaded → ℕ = λ x. x.number in
      let b₁ = passed n (head_wrong f) (λ q. omega arith) done in
      let b₂ = passed n (not (allowed t)) (λ q. omega arith) b₁.1 in
      let b₃ = passed n (not (all (λ x. x) (eqb w (work_length s) ∷ all_lengths s a))) (λ q. omega arith) b₂.1 in
      let b₄ = passed n (ltb t.capacity (file_count f)) (λ q. omega arith) b₃.1 in
      let b₅ = passed n (body_wrong t f) (λ q. omega arith) b₄.1 in
      let b₆ = passed n (not (rising (file_records f))) (λ q. omega arith) b₅.1 in
      let b₇ = passed n (side_short s (file_records f)) (λ q. omega arith) b₆.1 in
      record {
        head = b₁.0;
        known = not-false _ (or_left (not (eqb c 6 || eqb c 7)) _ b₁.0);
        long = ltb-false (length f) h (or_right (not (eqb c 6 || eqb c 7)) _ b₁.0);
        ok = not-false (allowed t) b₂.0;
        few = ltb-false t.capacity (file_count f) b₄.0;
        first = eqb-true c (first_count t) (not-false _ (or_left (not (eqb c (first_count t))) _ b₅.0));
        size = eqb-true (length f) (h + record_size s * file_count f) (not-false _ (or_right (not (eqb c (first_count t))) _ b₅.0));
        order = not-false (rising (file_records f)) b₆.0;
        need = b₇.0;
        wrote = rw (b₁.0, b₂.0, b₃.0, b₄.0, b₅.0, b₆.0, b₇.0);
      }

  module _ (bytes : All Byte f) where
    rest : file_count f * (s.width + 4) ≡ length (drop h f)
    unfolding record_size
    rest = let g = loading in rw length-drop (omega (arith, g.size, mul_comm (file_count f) (s.width + 4)))

    has_layout : HasLayout s (file_records f)
    unfolding file_records card_of
    has_layout =
        let g = loading in
        record {
          fit = records_fit s.width (file_count f) (drop h f) (le_of_eq rest) (all_drop Byte h f bytes);
          order = g.order;
          few = rw length_records g.few;
          need = enough s (file_records f) g.need;
        }

    -- the settings of a file are its numbers after the first, whichever count it has
    head_is : head t (file_count f) ≡ words c f
    unfolding file_settings file_count
    head_is =
        rw (← loading.first, words_are c f)
        (by_test (eqb c 6) (λ e. let six = eqb-true c 6 e in rw six (ap (λ (n : ℕ). n ∷ drop 1 (map (number f) (upto 0 8))) (sym six)))
        (λ e. let seven = eqb-true c 7 (rw e at loading.known) in rw seven (ap (λ (n : ℕ). n ∷ drop 1 (map (number f) (upto 0 9))) (sym seven))))

    head_written : flat (to_bytes 2) (head t (length (file_records f))) ≡ take h f
    unfolding file_records
    head_written =
        let long : (2 + c) * 2 ≤ length f = omega (arith, loading.long) in
        let same : (2 + c) * 2 ≡ h = omega arith in
        rw length_records
        (ap (flat (to_bytes 2)) head_is ∙ write_entries 2 word (to_bytes 2) (λ b h q. to_of_bytes b q 2 h) (2 + c) f long bytes
        ∙ ap (λ (n : ℕ). take n f) same)

    records_written : flat record_bytes (file_records f) ≡ drop h f
    unfolding file_records
    records_written =
        write_records s.width (file_count f) (drop h f) (le_of_eq rest) (all_drop Byte h f bytes)
        ∙ take_all (file_count f * (s.width + 4)) (drop h f) (le_of_eq (sym rest))

    snapshot_written : snapshot t (file_records f) ≡ f
    snapshot_written = rw (snapshot_is t (file_records f), head_written, records_written) (take-append-drop h f)

pub save_load : SaveLoad
unfolding layout layout_by
save_load f w a done bytes target e =
    let t = file_settings f in
    let l = file_records f in
    let g = loading f w a done in
    let h = has_layout f w a done bytes in
    let written : snapshot t l ≡ f = snapshot_written f w a done bytes in
    rw g.wrote
    (save_layout t g.ok l h target (e ∙ ap length (sym written)) (layout (card_of t) l).ledger refl (sized (card_of t) (sound t g.ok) l h).ledger
    ∙ rw written)

-- ---- the settings of a file's head
pub head_load : HeadLoad
unfolding head_settings head_refusal
head_load f w a done area seven =
    let g = loading f w a done in
    rw (eq-eqb (length area) settings_count seven, g.head, g.ok, eq-eqb (count_of f) (first_count (file_settings f)) g.first, g.wrote)

-- a load of the saved file into areas that hold its layout
pub head_save : HeadSave
head_save t ledger w target done bytes area seven =
    let s = card_of t in
    let l = flows t ledger w target done in
    let right = sized s (sound t (saving t ledger w target done).ok) l (flows_have_layout t ledger w target done bytes) in
    let loads = load_save t ledger w target done bytes (layout s l) right in
    head_load _ (work_length s) (layout s l) (ap (λ (x : Loaded). x.number) loads) area seven
    ∙ ap (λ (x : Loaded). record { number = 0; settings = settings_list x.settings }) loads

-- an answer that is neither 1 nor 2
record Neither (x : Loaded) : Type 0 where
  one : x.number ≢ 1
  two : x.number ≢ 2

either : (t : Bool) {a b : Loaded} → Neither a → Neither b → Neither (cond t a b)
either true p q = p
either false p q = q

-- with its head, allowed settings and areas of their lengths a file loads, or is refused with 8, 12, 13 or 9
sized_load : (f : List ℕ) (a : Areas) → head_wrong f ≡ false → not (allowed (file_settings f)) ≡ false → Sized (card_of (file_settings f)) a
    → Neither (load f (work_length (card_of (file_settings f))) a)
unfolding load
sized_load f a whole ok z =
    let t = file_settings f in
    let s = card_of t in
    let w = work_length s in
    rw (whole, ok, eq-eqb w w refl, all_lengths_right s a z)
    (either (ltb t.capacity (file_count f)) (record { one = λ q. omega arith; two = λ q. omega arith })
    (either (body_wrong t f) (record { one = λ q. omega arith; two = λ q. omega arith })
    (either (not (rising (file_records f))) (record { one = λ q. omega arith; two = λ q. omega arith })
    (either (side_short s (file_records f)) (record { one = λ q. omega arith; two = λ q. omega arith })
    (record { one = λ q. omega arith; two = λ q. omega arith })))))

pub head_sizes : HeadSizes
unfolding head_settings head_refusal
head_sizes f area done a z =
    let whole = passed (λ (n : ℕ). n) (head_wrong f) (λ q. omega arith) done in
    let ok = passed (λ (n : ℕ). n) (not (allowed (file_settings f))) (λ q. omega arith) whole.1 in
    let loads = sized_load f a whole.0 ok.0 z in (loads.one, loads.two)

pub handed_on : HandedOn
unfolding settings_in
handed_on t = refl
