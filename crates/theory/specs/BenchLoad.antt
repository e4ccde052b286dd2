-- Document 02, U1, 'A load for the bench': a generator of numbers, the call that two numbers make, n calls as flowrun takes them, and what an input of bytes
-- asks for. (The load of a snapshot is in Snapshot.antt, and is another thing.)
use Rattle.std.specs.Prelude.{Bool, cond, not, ◌||◌, List, [], ◌∷◌, ◌++◌, map, ℕ, zero, suc, ◌+◌, ◌%◌, ◌^◌, eqb, length, take, drop, replicate}
use Rattle.std.proofs.Math.Option.{Option, none, some}
use Rattle.theory.specs.Lists.{flat}
use Rattle.theory.specs.Hash.{xorshift64}
use Rattle.theory.specs.Records.{Record, to_bytes, of_bytes, record_bytes}
use Rattle.theory.specs.Settings.{in_range, card_of}
use Rattle.theory.specs.Ledger.{Call, clear, add, change, remove, search, fetch, tally, plain}
use Rattle.theory.specs.Flowrun.{flowrun_settings, line_text, printed}

-- ---- "A generator holds a 64-bit s .. and a 64-bit w"
pub record Generator : Type 0 where
  pub s : ℕ
  pub w : ℕ

-- "s, stepped by document 01's xorshift64, and .. w that grows by 362437 modulo 2^64; it steps both"
unfoldable pub stepped : Generator → Generator
stepped g = record { s = xorshift64 g.s; w = (g.w + 362437) % 2 ^ 64 }

-- "then gives s + w modulo 2^64"
unfoldable pub next_number : Generator → ℕ
next_number g = ((stepped g).s + (stepped g).w) % 2 ^ 64

-- ---- "Each call takes two numbers", in the order in which they are given
pub record Drawn : Type 0 where
  pub first : ℕ
  pub second : ℕ

-- what a generator gives for one call, and the generator after it
unfoldable pub draw : Generator → Drawn
draw g = record { first = next_number g; second = next_number (stepped g) }

unfoldable pub after_call : Generator → Generator
after_call g = stepped (stepped g)

-- "the class is the low 32 bits of the first"
unfoldable pub load_class : Drawn → ℕ
load_class d = d.first % 2 ^ 32

-- flowrun's letter of a call; it has no fetch and no tally
abbrev pub call_letter : Call → ℕ
call_letter (add k x) = 73
call_letter (change k x) = 67
call_letter (remove k) = 68
call_letter (search k) = 83
call_letter clear = 88
call_letter (fetch k) = 63
call_letter tally = 63

-- "A flow count F"
module _ (flows : ℕ) where
  -- "the key is the second mod F in eight bytes, high byte first, then five zero bytes"
  unfoldable pub load_key : Drawn → List ℕ
  load_key d = to_bytes 8 (d.second % flows) ++ replicate 5 0

  -- "the first mod 4, from 0, picks add, change, remove or search"
  unfoldable pub load_call : Drawn → Call
  load_call d =
      cond (eqb (d.first % 4) 0) (add (load_key d) (load_class d))
      (cond (eqb (d.first % 4) 1) (change (load_key d) (load_class d)) (cond (eqb (d.first % 4) 2) (remove (load_key d)) (search (load_key d))))

  -- flowrun's 18 bytes of it: letter, key, class; the class stands there of a removal and of a search too
  unfoldable pub call_bytes : Drawn → List ℕ
  call_bytes d = call_letter (load_call d) ∷ record_bytes (record { key = load_key d; class = load_class d })

-- ---- n calls from a generator: their numbers, the calls, their bytes, and the generator after them
unfoldable pub draws : ℕ → Generator → List Drawn
draws zero g = []
draws (suc n) g = draw g ∷ draws n (after_call g)

unfoldable pub load_calls : ℕ → ℕ → Generator → List Call
load_calls flows n g = map (load_call flows) (draws n g)

unfoldable pub load_bytes : ℕ → ℕ → Generator → List ℕ
load_bytes flows n g = flat (call_bytes flows) (draws n g)

unfoldable pub after_calls : ℕ → Generator → Generator
after_calls zero g = g
after_calls (suc n) g = after_calls n (after_call g)

-- ---- "A program reads s, w, F and a count of calls from standard input, eight bytes each, high byte first"
pub record BenchLoad : Type 0 where
  pub generator : Generator
  pub flows : ℕ
  pub count : ℕ

-- the number in the eight bytes from a place on
unfoldable pub eight_at : ℕ → List ℕ → ℕ
eight_at i b = of_bytes (take 8 (drop i b))

unfoldable pub load_in : List ℕ → BenchLoad
load_in b =
    record { generator = record { s = eight_at 0 b; w = eight_at 8 b }; flows = eight_at 16 b; count = eight_at 24 b }

-- 15: "s zero, F outside its range" (1 to 4,096) "or an input not of 32 bytes"
unfoldable pub load_wrong : List ℕ → Bool
load_wrong b = eqb (load_in b).generator.s 0 || not (in_range 1 4096 (load_in b).flows) || not (eqb (length b) 32)

-- the load that an input asks for; none where 15 applies
unfoldable pub load_asked : List ℕ → Option BenchLoad
load_asked b = cond (load_wrong b) none (some (load_in b))

abbrev pub asked_number : Option BenchLoad → ℕ
asked_number none = 15
asked_number (some x) = 0

-- "and writes so many calls for flowrun"; of 15: "nothing is then written"
unfoldable pub load_written : BenchLoad → List ℕ
load_written x = load_bytes x.flows x.count x.generator

abbrev pub asked_written : Option BenchLoad → List ℕ
asked_written none = []
asked_written (some x) = load_written x

-- ---- flowrun's lines of a list of calls, the first of which is call n, by the plain ledger that holds a list of records
unfoldable pub call_lines : ℕ → List Call → List Record → List ℕ
call_lines n [] l = []
call_lines n (c ∷ cs) l =
    let x = plain (card_of flowrun_settings) c l in
    line_text (record { call = n; letter = call_letter c; answer = printed c x.reply }) ++ call_lines (suc n) cs x.state
