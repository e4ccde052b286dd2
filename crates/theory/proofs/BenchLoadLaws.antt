-- Laws of the bench's load: flowrun reads a call's bytes as that call, a load of n calls is n whole calls for flowrun, and a load may be made in pieces.
use mathlib.Core.Path.{◌≡◌, refl, ap}
use mathlib.Core.Logic.{◌≢◌}
use mathlib.Core.Bool.{Bool, true, false, cond, not, ◌||◌}
use mathlib.Core.List.{List, [], ◌++◌, map-append}
use mathlib.Core.Option.{Option, none, some}
use Prim.Native.Nat.{ℕ, zero, suc, ◌+◌, ◌*◌, ◌%◌, ◌^◌, ◌≤◌, ◌<◌}
use native.Mathlib.Nat.{suc-add, zero-add}
use native.Mathlib.Omega.{arith}
use lib.Dec.{leb, eqb}
use borrow.Author.Tests.{leb-true, ne_eqb}
use lib.ListN.{length, get_or, length-append}
use lib.Seq.{take_at, drop_at, take_all}
use Rattle.theory.specs.Lists.{flat}
use Rattle.theory.specs.Records.{Record, to_bytes, of_bytes, record_bytes}
use Rattle.theory.specs.Settings.{ipv4_width, in_range}
use Rattle.theory.specs.Flowrun.{letter_call, call_in, call_count, header, output, plain_lines, plain_output}
use Rattle.theory.specs.BenchLoad.{Generator, Drawn, draw, after_call, load_class, call_letter, load_key, load_call, call_bytes}
use Rattle.theory.specs.BenchLoad.{draws, load_calls, load_bytes, after_calls, BenchLoad, load_in, load_wrong, load_asked}
use Rattle.theory.specs.BenchLoad.{asked_number, asked_written, call_lines}
use Rattle.theory.proofs.ListLaws.{and_left, and_right, or_left, or_right, negated_false, by_test}
use Rattle.theory.proofs.ListLaws.{All, all_every, all_append, all_replicate, length_flat}
use Rattle.theory.proofs.GrowingLaws.{flat_append}
use Rattle.theory.proofs.ByteLaws.{Byte, length_to_bytes, to_bytes_small, of_to_bytes}
use Rattle.theory.proofs.FlowrunLaws.{output_plain}

-- ---- one call
module _ (flows : ℕ) (d : Drawn) where
  pub length_load_key : length (load_key flows d) ≡ ipv4_width
  unfolding load_key
  length_load_key = rw (length-append, length_to_bytes)

  pub length_call : length (call_bytes flows d) ≡ 18
  unfolding call_bytes record_bytes
  length_call = rw (length-append, length_load_key, length_to_bytes)

  first_byte : get_or (call_bytes flows d) 0 0 ≡ call_letter (load_call flows d)
  unfolding call_bytes
  first_byte = refl

  -- a letter and a class read back
  letter_read : letter_call (call_letter (load_call flows d)) (load_key flows d) (load_class d) ≡ some (load_call flows d)
  unfolding letter_call load_call
  letter_read =
      by_test (eqb (d.first % 4) 0) (λ e. rw e)
      (λ e. by_test (eqb (d.first % 4) 1) (λ f. rw (e, f)) (λ f. by_test (eqb (d.first % 4) 2) (λ h. rw (e, f, h)) (λ h. rw (e, f, h))))

  class_read : of_bytes (to_bytes 4 (load_class d)) ≡ load_class d
  unfolding load_class
  class_read = of_to_bytes 4 (d.first % 2 ^ 32) (omega arith)

  -- flowrun's reading of a call's bytes is that call
  pub call_read : call_in (call_bytes flows d) ≡ some (load_call flows d)
  unfolding call_in call_bytes record_bytes
  call_read =
      let key = load_key flows d in
      let class = to_bytes 4 (load_class d) in
      rw (length-append, length_load_key, length_to_bytes, take_at key class ipv4_width length_load_key, drop_at key class ipv4_width length_load_key)
      (rw (take_all 4 class (rw length_to_bytes (omega arith)), class_read) letter_read)

  -- its bytes are bytes
  letter_small : call_letter (load_call flows d) < 256
  unfolding load_call
  letter_small =
      by_test (eqb (d.first % 4) 0) (λ e. rw e (omega arith))
      (λ e. by_test (eqb (d.first % 4) 1) (λ f. rw (e, f) (omega arith))
      (λ f. by_test (eqb (d.first % 4) 2) (λ h. rw (e, f, h) (omega arith)) (λ h. rw (e, f, h) (omega arith))))

  call_small : All Byte (call_bytes flows d)
  unfolding call_bytes record_bytes load_key
  call_small =
      let key = all_append Byte (to_bytes 8 (d.second % flows)) _ (to_bytes_small 8 (d.second % flows)) (all_replicate Byte 5 0 (omega arith)) in
      (letter_small, all_append Byte (load_key flows d) _ key (to_bytes_small 4 (load_class d)))

-- ---- n calls and then m are n + m calls
pub draws_more : (n m : ℕ) (g : Generator) → draws (n + m) g ≡ draws n g ++ draws m (after_calls n g)
unfolding draws after_calls
draws_more zero m g = rw (zero-add m)
draws_more (suc n) m g = rw (suc-add n m, draws_more n m (after_call g))

pub after_more : (n m : ℕ) (g : Generator) → after_calls (n + m) g ≡ after_calls m (after_calls n g)
unfolding after_calls
after_more zero m g = rw (zero-add m)
after_more (suc n) m g = rw (suc-add n m, after_more n m (after_call g))

pub calls_more : (flows n m : ℕ) (g : Generator) → load_calls flows (n + m) g ≡ load_calls flows n g ++ load_calls flows m (after_calls n g)
unfolding load_calls
calls_more flows n m g = rw (draws_more n m g, map-append)

pub bytes_more : (flows n m : ℕ) (g : Generator) → load_bytes flows (n + m) g ≡ load_bytes flows n g ++ load_bytes flows m (after_calls n g)
unfolding load_bytes
bytes_more flows n m g = rw (draws_more n m g, flat_append)

-- ---- for flowrun: n whole calls, nothing left over
length_draws : (n : ℕ) (g : Generator) → length (draws n g) ≡ n
unfolding draws
length_draws zero g = refl
length_draws (suc n) g = ap suc (length_draws n (after_call g))

pub length_load : (flows n : ℕ) (g : Generator) → length (load_bytes flows n g) ≡ 18 * n
unfolding load_bytes
length_load flows n g = rw (length_flat (call_bytes flows) 18 (draws n g) (all_every (length_call flows) (draws n g)), length_draws)

pub count_load : (flows n : ℕ) (g : Generator) → call_count (load_bytes flows n g) ≡ n
unfolding call_count
count_load flows n g = rw (length_load flows n g) (omega arith)

load_small : (flows n : ℕ) (g : Generator) → All Byte (load_bytes flows n g)
unfolding load_bytes draws
load_small flows zero g = tt
load_small flows (suc n) g = all_append Byte (call_bytes flows (draw g)) _ (call_small flows (draw g)) (load_small flows n (after_call g))

-- the plain ledger's lines of the bytes are its lines of the calls
lines_of_calls : (flows k n : ℕ) (g : Generator) (l : List Record) → plain_lines k n (load_bytes flows n g) l ≡ call_lines k (load_calls flows n g) l
unfolding plain_lines load_bytes load_calls draws call_lines
lines_of_calls flows k zero g l = refl
lines_of_calls flows k (suc n) g l =
    let d = draw g in
    let rest = flat (call_bytes flows) (draws n (after_call g)) in
    rw (take_at (call_bytes flows d) rest 18 (length_call flows d), drop_at (call_bytes flows d) rest 18 (length_call flows d), call_read flows d)
    (rw (first_byte flows d, lines_of_calls flows (suc k) n (after_call g) _))

-- flowrun's output on a load: its header, and the line of each call
pub output_of_load : (flows n : ℕ) (g : Generator) → output (load_bytes flows n g) ≡ header ++ call_lines 1 (load_calls flows n g) []
unfolding plain_output
output_of_load flows n g = rw (output_plain (load_bytes flows n g) (load_small flows n g), count_load flows n g, lines_of_calls flows 1 n g [])

-- ---- 15: nothing is written
pub refused_writes_nothing : (x : Option BenchLoad) → asked_number x ≡ 15 → asked_written x ≡ []
refused_writes_nothing none e = refl
refused_writes_nothing (some x) e = absurd (omega arith)

-- ---- what an input asks for: 15 for each of its reasons, else the load that it holds
module _ (b : List ℕ) where
  refused : load_wrong b ≡ true → load_asked b ≡ none
  unfolding load_asked
  refused e = rw e

  pub zero_s : (load_in b).generator.s ≡ 0 → load_asked b ≡ none
  unfolding load_wrong
  zero_s e = refused (rw e)

  pub flows_outside : in_range 1 4096 (load_in b).flows ≡ false → load_asked b ≡ none
  unfolding load_wrong
  flows_outside e = refused (by_test (eqb (load_in b).generator.s 0) (λ s. rw s) (λ s. rw (s, e)))

  pub other_length : length b ≢ 32 → load_asked b ≡ none
  unfolding load_wrong
  other_length h =
      refused (by_test (eqb (load_in b).generator.s 0) (λ s. rw s)
      (λ s. by_test (in_range 1 4096 (load_in b).flows) (λ f. rw (s, f, ne_eqb (length b) 32 h)) (λ f. rw (s, f))))

  pub load_right : length b ≡ 32 → (load_in b).generator.s ≢ 0 → in_range 1 4096 (load_in b).flows ≡ true → load_asked b ≡ some (load_in b)
  unfolding load_asked load_wrong
  load_right e s f = rw (e, ne_eqb (load_in b).generator.s 0 s, f)

  -- a load that is given has a flow count in its range
  in_its_range : load_wrong b ≡ false → in_range 1 4096 (load_in b).flows ≡ true
  unfolding load_wrong
  in_its_range e =
      let outside_range = not (in_range 1 4096 (load_in b).flows) in
      let both = or_left (eqb (load_in b).generator.s 0 || outside_range) (not (eqb (length b) 32)) e in
      negated_false outside_range (in_range 1 4096 (load_in b).flows) refl (or_right (eqb (load_in b).generator.s 0) outside_range both)

  bounds : load_wrong b ≡ false → (1 ≤ (load_in b).flows) × ((load_in b).flows ≤ 4096)
  bounds e =
      let n = (load_in b).flows in
      let inside = in_its_range e in
      (leb-true 1 n (and_left (leb 1 n) (leb n 4096) inside), leb-true n 4096 (and_right (leb 1 n) (leb n 4096) inside))

  pub flows_allowed : (x : BenchLoad) → load_asked b ≡ some x → (1 ≤ x.flows) × (x.flows ≤ 4096)
  unfolding load_asked
  flows_allowed x e = go (load_wrong b) refl e
    where
      go : (t : Bool) → load_wrong b ≡ t → cond t none (some (load_in b)) ≡ some x → (1 ≤ x.flows) × (x.flows ≤ 4096)
      go true f h = let z : ◌≡◌ {A = ℕ} 0 1 = cc in absurd (omega arith)
      go false f h = let same : load_in b ≡ x = cc in rw (← same) (bounds f)
