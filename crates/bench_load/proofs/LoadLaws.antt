-- Laws of writing a load: the letter of a call, the parts of a call lent and back, and calls written one after the other.
use Rattle.std.proofs.Common.{◌≡◌, ℕ, ◌+◌, ◌-◌, ◌*◌, ◌/◌, ◌%◌, ◌<◌, ◌≤◌, min, true, ◌≢◌, List, [], ◌∷◌, ◌++◌, length, take, drop, set, replicate}
use Rattle.std.proofs.Common.{sym, refl, ap, ◌∙◌, append_assoc, append-nil, arith, length-set, length-take-le, take_all, ne_eqb}
use mathlib.Core.Option.{some}
use native.Mathlib.Nat.{add-sub_cancel_left}
use Rattle.theory.specs.Records.{to_bytes, record_bytes}
use Rattle.theory.specs.Settings.{in_range, ipv4_width}
use Rattle.theory.specs.BenchLoad.{Generator, draw, after_call, load_class, call_letter, load_key, load_call, call_bytes}
use Rattle.theory.specs.BenchLoad.{draws, load_bytes, after_calls, load_in, load_asked, load_written}
use Rattle.theory.proofs.BenchLoadLaws.{length_call, length_load, bytes_more, after_more, load_right}
use Rattle.memory.proofs.SliceLaws.{back, length_back, take_back, tail_back, length_tail, front_length, front_take}
use Rattle.bench_load.specs.declared.Generator as code
use Rattle.bench_load.specs.declared.BenchLoad.{BenchLoad}
use Rattle.bench_load.specs.Loads.{generator_of, load_of, drawn, Cut}

-- a first number that is none of 0, 1, 2 modulo 4 asks for a search
pub search_letter : (flows first second : ℕ) → first % 4 ≢ 0 → first % 4 ≢ 1 → first % 4 ≢ 2 → 83 ≡ call_letter (load_call flows (drawn first second))
unfolding load_call
search_letter flows first second a b c = rw (ne_eqb (first % 4) 0 a, ne_eqb (first % 4) 1 b, ne_eqb (first % 4) 2 c)

-- a key is eight bytes at the front of a part and zeros after them
module _ (to eight : List ℕ) (size : length to ≡ ipv4_width) (e : length eight ≡ 8) where
  front_long : length (eight ++ drop 8 to) ≡ ipv4_width
  front_long = front_length 8 to eight (omega arith) e ∙ size

  pub zeros_lent : length (take (length (eight ++ drop 8 to) - 8) (drop 8 (eight ++ drop 8 to))) ≡ 5
  zeros_lent = length_tail 8 (eight ++ drop 8 to) (omega (arith, front_long)) ∙ omega (arith, front_long)

  pub key_back : (zeros : List ℕ) → back 8 (length (eight ++ drop 8 to) - 8) (eight ++ drop 8 to) zeros ≡ eight ++ zeros
  key_back zeros = rw (tail_back 8 (eight ++ drop 8 to) zeros (omega (arith, front_long)), front_take 8 to eight (omega arith) e)

pub key_written : (flows first second : ℕ) (eight zeros : List ℕ) → eight ≡ to_bytes 8 (second % flows) → zeros ≡ replicate 5 0
    → eight ++ zeros ≡ load_key flows (drawn first second)
unfolding load_key
key_written flows first second eight zeros e f = rw (e, f)

-- a call is its letter, its key and its class
pub call_written : (flows first second letter : ℕ) (key class : List ℕ) (x : ℕ) → letter ≡ call_letter (load_call flows (drawn first second))
    → key ≡ load_key flows (drawn first second) → class ≡ to_bytes 4 x → x ≡ load_class (drawn first second)
    → letter ∷ (key ++ class) ≡ call_bytes flows (drawn first second)
unfolding call_bytes record_bytes
call_written flows first second letter key class x e f g h = rw (e, f, g, h)

-- these put into a part one after the other: the part after each of the first two, and once the class is back
abbrev pub lettered : List ℕ → ℕ → List ℕ
lettered to letter = set to 0 letter

abbrev pub keyed : List ℕ → ℕ → List ℕ → List ℕ
keyed to letter key = back 1 ipv4_width (lettered to letter) key

module _ (to : List ℕ) (letter : ℕ) (size : length to ≡ 18) where
  pub lettered_long : length (lettered to letter) ≡ 18
  lettered_long = length-set to 0 letter ∙ size

  letter_first : (l : List ℕ) → length l ≡ 18 → take 1 (set l 0 letter) ≡ letter ∷ []
  letter_first [] h = absurd (omega arith)
  letter_first (x ∷ xs) h = refl

  module _ (key : List ℕ) (e : length key ≡ ipv4_width) where
    pub keyed_long : length (keyed to letter key) ≡ 18
    keyed_long = length_back 1 ipv4_width (lettered to letter) key (omega (arith, lettered_long)) e ∙ lettered_long

    pub call_back : (class : List ℕ) → back 14 (length (keyed to letter key) - 14) (keyed to letter key) class ≡ letter ∷ (key ++ class)
    call_back class =
        rw (tail_back 14 (keyed to letter key) class (omega (arith, keyed_long)))
        (rw (take_back 1 ipv4_width (lettered to letter) key (omega (arith, lettered_long)) e, letter_first to size, append_assoc))

-- ---- the first i calls from g in a buffer of n bytes, and the generator after them
pub record Filled (flows : ℕ) (g : Generator) (n : ℕ) (to : List ℕ) (now : Generator) (i : ℕ) : Type 0 where
  pub long : length to ≡ n
  pub front : take (i * 18) to ≡ load_bytes flows i g
  pub after : now ≡ after_calls i g

pub filled_none : (flows : ℕ) (g : Generator) (to : List ℕ) → Filled flows g (length to) to g 0
unfolding load_bytes draws after_calls
filled_none flows g to = record { long = refl; front = refl; after = refl }

-- one call more
one_call : (flows : ℕ) (g : Generator) → load_bytes flows 1 g ≡ call_bytes flows (draw g)
unfolding load_bytes draws
one_call flows g = append-nil (call_bytes flows (draw g))

one_after : (g : Generator) → after_calls 1 g ≡ after_call g
unfolding after_calls
one_after g = refl

module _ {flows : ℕ} {g : Generator} {n : ℕ} {to : List ℕ} {now : Generator} {i : ℕ} (x : Filled flows g n to now i) where
  pub filled_more : i < n / 18 → (call : List ℕ) (later : Generator) → call ≡ call_bytes flows (draw now) → later ≡ after_call now
      → Filled flows g n (back (i * 18) (i * 18 + 18 - i * 18) to call) later (i + 1)
  filled_more h call later e f =
      let size : length call ≡ 18 = rw (e, length_call flows (draw now)) in
      let room : i * 18 + 18 ≤ length to = omega (arith, x.long) in
      let next : (i + 1) * 18 ≡ i * 18 + 18 = omega arith in
      record {
        long = rw add-sub_cancel_left (length_back (i * 18) 18 to call room size ∙ x.long);
        front = rw (next, add-sub_cancel_left, take_back (i * 18) 18 to call room size, x.front, bytes_more flows i 1 g, ← x.after, one_call flows now, e);
        after = rw (f, after_more i 1 g, ← x.after, one_after now);
      }

  -- all calls that the buffer holds
  pub filled_all : n % 18 ≡ 0 → i ≡ n / 18 → to ≡ load_bytes flows (n / 18) g
  filled_all whole e = sym (take_all (i * 18) to (omega (arith, x.long))) ∙ (x.front ∙ ap (λ k. load_bytes flows k g) e)

-- ---- the load of an input, by its four numbers
pub asked_is : (b : List ℕ) (s w flows count : ℕ) → s ≡ (load_in b).generator.s → w ≡ (load_in b).generator.w → flows ≡ (load_in b).flows
    → count ≡ (load_in b).count → length b ≡ 32 → s ≢ 0 → in_range 1 4096 flows ≡ true
    → some (load_of (record { generator = record { s = s; w = w }; flows = flows; count = count })) ≡ load_asked b
asked_is b s w flows count e f g h long nonzero allowed = rw (e, f, g, h) (sym (load_right b long (rw e at nonzero) (rw g at allowed)))

-- ---- a load cut in two: n of its calls in a buffer, as many as it holds or all of them, and the load that is left
pub cut_by : (x : BenchLoad) (to : List ℕ) (n : ℕ) (piece : List ℕ) (later : code.Generator) → n ≡ min (length to / 18) x.count
    → piece ≡ load_bytes x.flows (length (take (n * 18) to) / 18) (generator_of x.generator)
    → generator_of later ≡ after_calls (length (take (n * 18) to) / 18) (generator_of x.generator)
    → Cut x (record { generator = later; flows = x.flows; count = x.count - n }) (piece ++ drop (n * 18) to) (n * 18)
unfolding load_written
cut_by x to n piece later least e f =
    let room : n * 18 ≤ length to = omega arith in
    let calls : length (take (n * 18) to) / 18 ≡ n = rw (length-take-le (n * 18) to room) (omega arith) in
    let size : length piece ≡ n * 18 = rw (e, calls, length_load) (omega arith) in
    let all : n + (x.count - n) ≡ x.count = omega arith in
    record {
      inside = rw (front_length (n * 18) to piece room size) room;
      whole = rw (front_take (n * 18) to piece room size, e, f, calls, ← bytes_more x.flows n (x.count - n) (generator_of x.generator), all);
      flows = refl;
      fewer = λ long some. omega (arith, front_length (n * 18) to piece room size);
    }
