-- Document 02, U3, 'Choosing settings for a node': the numbers of a trial by the plain ledger, its answer, its line, and all that the simulation prints for
-- the bytes of its input.
use Rattle.std.specs.Prelude.{◌≡◌, Bool, true, cond, not, ◌||◌, List, [], ◌∷◌, ◌++◌, ℕ, zero, suc, ◌+◌, ◌*◌, ◌/◌, ◌^◌, ◌≤◌, ltb, eqb, length, take, drop}
use Rattle.std.proofs.Math.Option.{Option, none, some}
use Rattle.theory.specs.Lists.{any, All}
use Rattle.theory.specs.Records.{Record, of_bytes, count_of}
use Rattle.theory.specs.Settings.{Settings, settings_of, ipv4_width, allowed, Card, card_of}
use Rattle.theory.specs.Settings.{ledger_length, true_length, clipped_length, buckets_length, side_length, work_length}
use Rattle.theory.specs.Layout.{Areas}
use Rattle.theory.specs.Ledger.{Call, clear, Reply, Step, side_need_of, plain}
use Rattle.theory.specs.Calls.{reply_number, reply_compared, call}
use Rattle.theory.specs.Flowrun.{decimal, then_space, then_line_feed}
use Rattle.theory.specs.BenchLoad.{load_calls, BenchLoad, load_in, load_wrong}
use Rattle.theory.specs.Demands.{Small}

-- ---- "greatest side need of a list held, refusals 6, 7, 8 and 9, and records compared in all"
pub record Numbers : Type 0 where
  pub greatest_need : ℕ
  pub refused_6 : ℕ
  pub refused_7 : ℕ
  pub refused_8 : ℕ
  pub refused_9 : ℕ
  pub compared : ℕ

-- before the first call, on a cleared table: the empty list has no side need
abbrev pub no_numbers : Numbers
no_numbers = record { greatest_need = 0; refused_6 = 0; refused_7 = 0; refused_8 = 0; refused_9 = 0; compared = 0 }

abbrev pub greater : ℕ → ℕ → ℕ
greater a b = cond (ltb a b) b a

-- one more where the number of what came back is n
abbrev pub one_more : ℕ → Reply → ℕ → ℕ
one_more n r before = before + cond (eqb (reply_number r) n) 1 0

-- a call adds: a refusal by its number, a search its records compared; then the side need of the list held raises the greatest
unfoldable pub counted : Reply → ℕ → Numbers → Numbers
counted r need x =
    record {
      greatest_need = greater x.greatest_need need;
      refused_6 = one_more 6 r x.refused_6;
      refused_7 = one_more 7 r x.refused_7;
      refused_8 = one_more 8 r x.refused_8;
      refused_9 = one_more 9 r x.refused_9;
      compared = x.compared + reply_compared r;
    }

-- the calls of a list one after the other, by what a call makes of a state and by the side need that a state shows
module _ {X : Type 0} (step : Call → X → Step X) (need : X → ℕ) where
  unfoldable pub counted_all : List Call → X → Numbers → Numbers
  counted_all [] a x = x
  counted_all (c ∷ cs) a x = counted_all cs (step c a).state (counted (step c a).reply (need (step c a).state) x)

-- "A line equals what the plain ledger gives for that load": by the plain ledger, from a list. A list that is refused with 9 is never held
unfoldable pub tried : Card → List Call → List Record → Numbers → Numbers
tried s = counted_all (plain s) (side_need_of s)

-- the same by the calls on areas, whose side store says in its count how many records it holds
unfoldable pub played : Card → List Call → Areas → Numbers → Numbers
played s = counted_all (call s) (λ a. count_of a.side_store)

-- ---- "six two-byte settings for each trial", in document 01's order and as in a snapshot, high byte first; keys of 13 bytes
abbrev pub trial_setting : List ℕ → ℕ → ℕ
trial_setting b i = of_bytes (take 2 (drop (2 * i) b))

unfoldable pub trial_settings : List ℕ → Settings
trial_settings b =
    settings_of (trial_setting b 0) (trial_setting b 1) (trial_setting b 2) (trial_setting b 3) (trial_setting b 4) (trial_setting b 5) ipv4_width

-- the bytes of document 01's six areas; true counts and work have two for each number
unfoldable pub area_bytes : Card → List ℕ
area_bytes s =
    ledger_length s ∷ 2 * true_length s ∷ clipped_length s ∷ buckets_length s ∷ side_length s ∷ 2 * work_length s ∷ []

-- "an area above 64 KiB"
unfoldable pub area_above : Card → Bool
area_above s = any (λ n. ltb 65536 n) (area_bytes s)

-- "1 (a setting out of range), 2 (an area above 64 KiB) or 14 (settings cut short)"; 14 comes first, since cut settings say nothing
unfoldable pub trial_answer : List ℕ → ℕ
trial_answer b =
    cond (ltb (length b) 12) 14 (cond (not (allowed (trial_settings b))) 1 (cond (area_above (card_of (trial_settings b))) 2 0))

-- "the trial's number from 1, answer 0, greatest side need .., refusals .., and records compared", in flowrun's line form
unfoldable pub trial_line : ℕ → ℕ → Numbers → List ℕ
trial_line n answer x =
    then_space (decimal n)
    ++ (then_space (decimal answer)
    ++ (then_space (decimal x.greatest_need)
    ++ (then_space (decimal x.refused_6)
    ++ (then_space (decimal x.refused_7)
    ++ (then_space (decimal x.refused_8) ++ (then_space (decimal x.refused_9) ++ then_line_feed (decimal x.compared)))))))

-- "plays the load on a cleared table for each": the load from its own start. Another answer than 0 "is followed by zeros"
unfoldable pub trial_numbers : BenchLoad → List ℕ → Numbers
trial_numbers load b =
    cond (eqb (trial_answer b) 0) (tried (card_of (trial_settings b)) (load_calls load.flows load.count load.generator) [] no_numbers) no_numbers

unfoldable pub trial_text : BenchLoad → ℕ → List ℕ → List ℕ
trial_text load n b = trial_line n (trial_answer b) (trial_numbers load b)

-- ---- the whole output: a line for each 12 bytes after the load, and one for what is left over
unfoldable pub trial_count : List ℕ → ℕ
trial_count b = (length b + 11) / 12

unfoldable pub trial_lines : BenchLoad → ℕ → ℕ → List ℕ → List ℕ
trial_lines load n zero b = []
trial_lines load n (suc k) b = trial_text load n (take 12 b) ++ trial_lines load (suc n) k (drop 12 b)

-- "U1's 32 bytes (a count up to 2^32)"; another load is 15
unfoldable pub trial_load : List ℕ → Option BenchLoad
trial_load b = cond (load_wrong b || ltb (2 ^ 32) (load_in b).count) none (some (load_in b))

-- "A bad load gives 15 and prints nothing."
abbrev pub lines_of : Option BenchLoad → List ℕ → List ℕ
lines_of none b = []
lines_of (some load) b = trial_lines load 1 (trial_count b) b

unfoldable pub trials_output : List ℕ → List ℕ
trials_output b = lines_of (trial_load (take 32 b)) (drop 32 b)

-- ---- WHAT IS CLAIMED; the laws are in proofs/TrialLaws.antt
-- "plays the load on a cleared table": whatever the areas held before, the calls themselves give the plain ledger's numbers: as_played
abbrev pub AsPlayed : Type 0
AsPlayed =
    (t : Settings) → allowed t ≡ true → (a : Areas) (cs : List Call) → All Small cs
    → played (card_of t) cs (call (card_of t) clear a).state no_numbers ≡ tried (card_of t) cs [] no_numbers

-- a list that is refused with 9 is never held, so that the greatest side need is at most S, on every input: greatest_fits
abbrev pub GreatestFits : Type 0
GreatestFits = (load : BenchLoad) (b : List ℕ) → (trial_numbers load b).greatest_need ≤ (trial_settings b).side_places
