-- Document 01, 'Program flowrun': the text that the program prints for the bytes of its input.
use Rattle.std.specs.Prelude.{cond, not, List, [], ◌∷◌, ◌++◌, ℕ, zero, suc, ◌+◌, ◌/◌, ◌%◌, ltb, eqb, length, take, drop, get_or}
use Rattle.std.proofs.Math.Option.{Option, none, some}
use Rattle.theory.specs.Records.{Record, of_bytes}
use Rattle.theory.specs.Settings.{Settings, ipv4_width, card_of, work_length}
use Rattle.theory.specs.Layout.{Areas, layout}
use Rattle.theory.specs.Lookup.{Answer, bare}
use Rattle.theory.specs.Ledger.{Call, clear, add, change, remove, search, fetch, tally, Reply, answered, handed, totalled, plain}
use Rattle.theory.specs.Calls.{perform}

-- "Settings 6, 3, 2, 4, 128, 8 in the order above"
unfoldable pub flowrun_settings : Settings
flowrun_settings = record { p = 6; k = 3; room = 2; top = 4; capacity = 128; side_places = 8; width = ipv4_width }

-- ---- text
-- a number in decimal, the highest digit first; the first argument bounds how many digits are split off, and n is more than enough
unfoldable pub digits_of : ℕ → ℕ → List ℕ
digits_of zero n = (48 + n) ∷ []
digits_of (suc f) n = cond (ltb n 10) ((48 + n) ∷ []) (digits_of f (n / 10) ++ ((48 + n % 10) ∷ []))

unfoldable pub decimal : ℕ → List ℕ
decimal n = digits_of n n

-- a field, and the byte after it: a space, or the line feed that ends the line
abbrev pub then_space : List ℕ → List ℕ
then_space f = f ++ (32 ∷ [])

abbrev pub then_line_feed : List ℕ → List ℕ
then_line_feed f = f ++ (10 ∷ [])

-- the header: call op answer class buckets compared
unfoldable pub header : List ℕ
header =
    then_space (99 ∷ 97 ∷ 108 ∷ 108 ∷ [])
    ++ (then_space (111 ∷ 112 ∷ [])
    ++ (then_space (97 ∷ 110 ∷ 115 ∷ 119 ∷ 101 ∷ 114 ∷ [])
    ++ (then_space (99 ∷ 108 ∷ 97 ∷ 115 ∷ 115 ∷ [])
    ++ (then_space (98 ∷ 117 ∷ 99 ∷ 107 ∷ 101 ∷ 116 ∷ 115 ∷ []) ++ then_line_feed (99 ∷ 111 ∷ 109 ∷ 112 ∷ 97 ∷ 114 ∷ 101 ∷ 100 ∷ [])))))

-- "its number from 1, letter, answer, class (found or written, else 0), buckets read, records compared"
pub record Line : Type 0 where
  pub call : ℕ
  pub letter : ℕ
  pub answer : Answer

unfoldable pub line_text : Line → List ℕ
line_text x =
    then_space (decimal x.call)
    ++ (then_space (x.letter ∷ [])
    ++ (then_space (decimal x.answer.number)
    ++ (then_space (decimal x.answer.class)
    ++ (then_space (decimal x.answer.buckets_read) ++ then_line_feed (decimal x.answer.records_compared)))))

-- ---- a call of 18 bytes: letter, key, class
-- letter I (add), C (change), D (remove), S (search) or X (clear)
unfoldable pub letter_call : ℕ → List ℕ → ℕ → Option Call
letter_call letter key class =
    cond (eqb letter 73) (some (add key class))
    (cond (eqb letter 67) (some (change key class))
    (cond (eqb letter 68) (some (remove key)) (cond (eqb letter 83) (some (search key)) (cond (eqb letter 88) (some clear) none))))

-- none for another letter, and for bytes left over
unfoldable pub call_in : List ℕ → Option Call
call_in b =
    cond (not (eqb (length b) 18)) none (letter_call (get_or b 0 0) (take ipv4_width (drop 1 b)) (of_bytes (take 4 (drop 14 b))))

-- the answer with the class that was written: of an accepted add or change
unfoldable pub written : ℕ → Answer → Answer
written class x =
    record {
      number = x.number;
      class = cond (eqb x.number 0) class 0;
      buckets_read = x.buckets_read;
      records_compared = x.records_compared;
      side_compared = x.side_compared;
    }

-- what is printed of a call's reply; flowrun has no fetch and no tally
abbrev pub printed : Call → Reply → Answer
printed (add k class) (answered x) = written class x
printed (change k class) (answered x) = written class x
printed (remove k) (answered x) = x
printed (search k) (answered x) = x
printed clear (answered x) = x
printed (fetch k) (answered x) = x
printed tally (answered x) = x
printed c (handed p) = bare 0
printed c (totalled x) = bare 0

-- ---- the lines: text, and the areas after it
pub record Printed : Type 0 where
  pub text : List ℕ
  pub areas : Areas

-- the line of a call, by the settings and a work area of w numbers; another letter, or bytes left over: letter ?, answer 14 and zeros, nothing altered
abbrev pub print_call : ℕ → ℕ → ℕ → Option Call → Areas → Printed
print_call w n letter none a = record { text = line_text (record { call = n; letter = 63; answer = bare 14 }); areas = a }
print_call w n letter (some c) a =
    let x = perform flowrun_settings w c a in
    record { text = line_text (record { call = n; letter = letter; answer = printed c x.reply }); areas = x.state }

unfoldable pub print_bytes : ℕ → ℕ → List ℕ → Areas → Printed
print_bytes w n b a = print_call w n (get_or b 0 0) (call_in b) a

-- the lines of k calls from number n on: 18 bytes each, the last one what is left over
unfoldable pub print_lines : ℕ → ℕ → ℕ → List ℕ → Areas → Printed
print_lines w n zero b a = record { text = []; areas = a }
print_lines w n (suc k) b a =
    let x = print_bytes w n (take 18 b) a in
    let rest = print_lines w (suc n) k (drop 18 b) x.areas in
    record { text = x.text ++ rest.text; areas = rest.areas }

-- how many calls an input has: one for each 18 bytes, and one for what is left over
unfoldable pub call_count : List ℕ → ℕ
call_count b = (length b + 17) / 18

-- the whole output: the header, then a line for each call, "on a table cleared first"
unfoldable pub output : List ℕ → List ℕ
output b =
    let s = card_of flowrun_settings in
    header ++ (print_lines (work_length s) 1 (call_count b) b (layout s [])).text

-- ---- the same in blocks, as the program reads its input: blocks of whole calls, then a last one; each is numbered on, over the areas that the one before left
unfoldable pub print_blocks : ℕ → ℕ → List (List ℕ) → List ℕ → Areas → Printed
print_blocks w n [] last a = print_lines w n (call_count last) last a
print_blocks w n (x ∷ xs) last a =
    let block = print_lines w n (call_count x) x a in
    let rest = print_blocks w (n + call_count x) xs last block.areas in
    record { text = block.text ++ rest.text; areas = rest.areas }

-- ---- the same by the plain ledger: its answer to a call of the input, 14 where there is none, and its list after it
abbrev pub plain_answer : Option Call → List Record → Answer
plain_answer none l = bare 14
plain_answer (some c) l = printed c (plain (card_of flowrun_settings) c l).reply

abbrev pub plain_list : Option Call → List Record → List Record
plain_list none l = l
plain_list (some c) l = (plain (card_of flowrun_settings) c l).state

-- the letter of a call, or ?
abbrev pub plain_letter : ℕ → Option Call → ℕ
plain_letter letter none = 63
plain_letter letter (some c) = letter

unfoldable pub plain_lines : ℕ → ℕ → List ℕ → List Record → List ℕ
plain_lines n zero b l = []
plain_lines n (suc k) b l =
    let c = call_in (take 18 b) in
    line_text (record { call = n; letter = plain_letter (get_or (take 18 b) 0 0) c; answer = plain_answer c l })
    ++ plain_lines (suc n) k (drop 18 b) (plain_list c l)

unfoldable pub plain_output : List ℕ → List ℕ
plain_output b = header ++ plain_lines 1 (call_count b) b []
