-- Laws of flowrun's text: a number's digits, the length of a line, lines printed in blocks, and that they are the plain ledger's answers.
use mathlib.Core.Path.{◌≡◌, refl}
use mathlib.Core.Bool.{true}
use mathlib.Core.List.{List, [], ◌∷◌, ◌++◌, append_assoc}
use mathlib.Core.Option.{Option, none, some}
use Prim.Native.Nat.{ℕ, zero, suc, ◌+◌, ◌*◌, ◌/◌, ◌%◌, ◌^◌, ◌≤◌, ◌<◌}
use native.Mathlib.Nat.{add-suc, suc-add, add-zero, zero-add, pow-suc}
use native.Mathlib.Omega.{arith}
use lib.Dec.{ltb, eqb}
use borrow.Author.Tests.{ltb-true, ltb-false, lt-ltb, le-ltb, eqb-true}
use lib.ListN.{length, take, drop, get_or, length-append, length-drop}
use lib.Seq.{take-append-le, drop-append-le}
use Rattle.theory.specs.Lists.{All, flat}
use Rattle.theory.specs.Records.{Record, of_bytes}
use Rattle.theory.specs.Settings.{ipv4_width, in_ranges, allowed, Card, card_of, work_length}
use Rattle.theory.specs.Layout.{Areas, layout}
use Rattle.theory.specs.Ledger.{Call, clear}
use Rattle.theory.specs.Calls.{call, perform}
use Rattle.theory.specs.Flowrun.{flowrun_settings, digits_of, decimal, header, Line, line_text, letter_call, call_in}
use Rattle.theory.specs.Flowrun.{print_call, print_bytes, print_lines, call_count, output, print_blocks}
use Rattle.theory.specs.Flowrun.{plain_answer, plain_list, plain_letter, plain_lines, plain_output}
use Rattle.theory.specs.Demands.{Byte, Small, HasLayout, Sized}
use Rattle.theory.proofs.ListLaws.{by_test, all_drop, all_take}
use Rattle.theory.proofs.SettingsLaws.{sound}
use Rattle.theory.proofs.ByteLaws.{number_below}
use Rattle.theory.proofs.CallLaws.{has_layout_empty, stays}
use Rattle.theory.proofs.Demands.{performed, performed_step}
use Rattle.theory.proofs.LentLaws.{clear_lent}

-- any bound that is large enough gives the same digits
digits_enough : (f g n : ℕ) → n ≤ f → n ≤ g → digits_of f n ≡ digits_of g n
unfolding digits_of
digits_enough zero zero n h k = refl
digits_enough zero (suc g) n h k = rw (lt-ltb n 10 (omega arith))
digits_enough (suc f) zero n h k = rw (lt-ltb n 10 (omega arith))
digits_enough (suc f) (suc g) n h k =
    by_test (ltb n 10) (λ e. rw e)
    (λ e. rw (e, digits_enough f g (n / 10) (omega (arith, ltb-false n 10 e)) (omega (arith, ltb-false n 10 e))))

-- a number below ten is one digit; another is the digits of its tenth, then its last digit
pub decimal_digit : (n : ℕ) → n < 10 → decimal n ≡ (48 + n) ∷ []
unfolding decimal digits_of
decimal_digit zero h = refl
decimal_digit (suc n) h = rw (lt-ltb (suc n) 10 h)

pub decimal_more : (n : ℕ) → 10 ≤ n → decimal n ≡ decimal (n / 10) ++ ((48 + n % 10) ∷ [])
unfolding decimal digits_of
decimal_more zero h = absurd (omega arith)
decimal_more (suc n) h = rw (le-ltb (suc n) 10 h, digits_enough n (suc n / 10) (suc n / 10) (omega arith) (omega arith))

-- a number below 10^k has at most k digits
pub decimal_length : (k n : ℕ) → n < 10 ^ suc k → length (decimal n) ≤ suc k
decimal_length zero n h = rw (decimal_digit n (omega (arith, h, pow-suc 10 0))) (omega arith)
decimal_length (suc k) n h =
    by_test (ltb n 10) (λ e. rw (decimal_digit n (ltb-true n 10 e)) (omega arith))
    (λ e. rw (decimal_more n (ltb-false n 10 e), length-append) (omega (arith, decimal_length k (n / 10) (omega (arith, h, pow-suc 10 (suc k))))))

-- the length of a line: a number of 64 bits, four of 32 bits, a letter, and six bytes between and after
pub line_length : (x : Line) → x.call < 10 ^ 20 → x.answer.number < 10 ^ 10 → x.answer.class < 10 ^ 10 → x.answer.buckets_read < 10 ^ 10
    → x.answer.records_compared < 10 ^ 10 → length (line_text x) ≤ 67
unfolding line_text
line_length x a b c d e =
    simp (length-append)
    (omega (
      arith,
      decimal_length 19 x.call a,
      decimal_length 9 x.answer.number b,
      decimal_length 9 x.answer.class c,
      decimal_length 9 x.answer.buckets_read d,
      decimal_length 9 x.answer.records_compared e,
    ))

-- lines printed in two pieces, the first of j whole calls
pub lines_in_pieces : (w n j k : ℕ) (x y : List ℕ) (a : Areas) → length x ≡ 18 * j
    → print_lines w n (j + k) (x ++ y) a ≡
    record {
      text = (print_lines w n j x a).text
          ++ (print_lines w (n + j) k y (print_lines w n j x a).areas).text;
      areas = (print_lines w (n + j) k y (print_lines w n j x a).areas).areas;
    }
unfolding print_lines
lines_in_pieces w n zero k [] y a h = rw (zero-add k, add-zero n)
lines_in_pieces w n zero k (b ∷ x) y a h = absurd (omega arith)
lines_in_pieces w n (suc j) k x y a h =
    rw (suc-add j k, take-append-le 18 x y (omega arith), drop-append-le 18 x y (omega arith))
    (rw (lines_in_pieces w (suc n) j k (drop 18 x) y (print_bytes w n (take 18 x) a).areas (rw length-drop (omega arith)), add-suc n j)
    (rw (← suc-add n j, append_assoc)))

-- ---- the input in blocks of whole calls, and a last one
-- a block of j whole calls
whole_length : (x : List ℕ) → length x % 18 ≡ 0 → length x ≡ 18 * call_count x
unfolding call_count
whole_length x h = omega arith

whole_count : (x y : List ℕ) → length x % 18 ≡ 0 → call_count (x ++ y) ≡ call_count x + call_count y
unfolding call_count
whole_count x y h = rw length-append (omega arith)

pub blocks_print_whole : (w n : ℕ) (bs : List (List ℕ)) (last : List ℕ) (a : Areas) → All (λ x. length x % 18 ≡ 0) bs
    → print_blocks w n bs last a ≡ print_lines w n (call_count (flat (λ x. x) bs ++ last)) (flat (λ x. x) bs ++ last) a
unfolding print_blocks
blocks_print_whole w n [] last a h = refl
blocks_print_whole w n (x ∷ xs) last a h =
    rw (append_assoc, whole_count x (flat (λ x. x) xs ++ last) h.0)
    (rw (lines_in_pieces w n (call_count x) (call_count (flat (λ x. x) xs ++ last)) x (flat (λ x. x) xs ++ last) a (whole_length x h.0))
    (rw (blocks_print_whole w (n + call_count x) xs last (print_lines w n (call_count x) x a).areas h.1)))

-- ---- OUTPUT: on a table cleared first, whatever its areas held; in blocks; by the plain ledger
settings_allowed : allowed flowrun_settings ≡ true
unfolding allowed in_ranges flowrun_settings
settings_allowed = refl

abbrev s : Card
s = card_of flowrun_settings

cleared : (a : Areas) → Sized s a → (perform flowrun_settings 0 clear a).state ≡ layout s []
unfolding call
cleared a z = rw (← clear_lent flowrun_settings (work_length s) a, performed flowrun_settings settings_allowed clear a z)

pub output_in_blocks : (a : Areas) → Sized s a → (bs : List (List ℕ)) (last : List ℕ) → All (λ x. length x % 18 ≡ 0) bs
    → output (flat (λ x. x) bs ++ last) ≡ header ++ (print_blocks (work_length s) 1 bs last (perform flowrun_settings 0 clear a).state).text
unfolding output
output_in_blocks a z bs last h = rw (cleared a z, blocks_print_whole (work_length s) 1 bs last (layout s []) h)

-- a call read out of bytes has a class of 32 bits
abbrev SmallCall : Option Call → Type 0
SmallCall none = Unit {0}
SmallCall (some c) = Small c

small_letter : (letter : ℕ) (key : List ℕ) (class : ℕ) → class < 2 ^ 32 → SmallCall (letter_call letter key class)
unfolding letter_call
small_letter letter key class h =
    by_test (eqb letter 73) (λ e. rw e h)
    (λ e. rw e (by_test (eqb letter 67) (λ e. rw e h)
    (λ e. rw e (by_test (eqb letter 68) (λ e. rw e tt)
    (λ e. rw e (by_test (eqb letter 83) (λ e. rw e tt) (λ e. rw e (by_test (eqb letter 88) (λ e. rw e tt) (λ e. rw e tt)))))))))

small_call : (b : List ℕ) → All Byte b → SmallCall (call_in b)
unfolding call_in
small_call b h =
    by_test (eqb (length b) 18)
    (λ e. rw e (small_letter (get_or b 0 0) (take ipv4_width (drop 1 b)) (of_bytes (take 4 (drop 14 b)))
    (number_below (drop 14 b) (all_drop Byte 14 b h) 4 (rw length-drop (omega (arith, eqb-true (length b) 18 e))))))
    (λ e. rw e tt)

line_plain : (n letter : ℕ) (o : Option Call) (l : List Record) → HasLayout s l
    → print_call (work_length s) n letter o (layout s l)
    ≡ record { text = line_text (record { call = n; letter = plain_letter letter o; answer = plain_answer o l }); areas = layout s (plain_list o l) }
line_plain n letter none l g = refl
line_plain n letter (some c) l g = rw (performed_step flowrun_settings settings_allowed c l g)

list_stays : (o : Option Call) (l : List Record) → SmallCall o → HasLayout s l → HasLayout s (plain_list o l)
list_stays none l m g = g
list_stays (some c) l m g = stays s (sound flowrun_settings settings_allowed) c l m g

pub lines_plain : (n k : ℕ) (b : List ℕ) (l : List Record) → All Byte b → HasLayout s l
    → (print_lines (work_length s) n k b (layout s l)).text ≡ plain_lines n k b l
unfolding print_lines print_bytes plain_lines
lines_plain n zero b l h g = refl
lines_plain n (suc k) b l h g =
    let c = call_in (take 18 b) in
    rw (line_plain n (get_or (take 18 b) 0 0) c l g)
    (rw (lines_plain (suc n) k (drop 18 b) (plain_list c l) (all_drop Byte 18 b h) (list_stays c l (small_call (take 18 b) (all_take Byte 18 b h)) g)))

pub output_plain : (b : List ℕ) → All Byte b → output b ≡ plain_output b
unfolding output plain_output
output_plain b h = rw (lines_plain 1 (call_count b) b [] h (has_layout_empty s (sound flowrun_settings settings_allowed)))
