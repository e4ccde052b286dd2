-- Laws of the lines of an input: after some calls their lines stand at the start of the buffer, and those of what is left of the input are to come.
use mathlib.Core.Path.{◌≡◌, refl, sym, ap, ◌∙◌}
use mathlib.Core.List.{List, [], ◌∷◌, ◌++◌, append_assoc, append-nil}
use Prim.Native.Nat.{ℕ, suc, ◌+◌, ◌/◌, ◌≤◌, ◌<◌, min}
use native.Mathlib.Numerals.{add-one}
use native.Mathlib.Omega.{arith}
use lib.ListN.{length, take, drop, length-append}
use lib.Seq.{take_at, take_all, drop_at}
use Rattle.std.proofs.lemmas.List.{drop_all}
use Rattle.theory.specs.Layout.{Areas}
use Rattle.theory.specs.Flowrun.{Printed, print_bytes, print_lines, call_count}
use Rattle.io.specs.Counts.{IsPrefixLen}
use Rattle.text.specs.declared.Text.{Text}
use Rattle.text.specs.Writing.{Writes}
use Rattle.lines.specs.Printing.{PrintsAfter, Prints}

abbrev lines_of : ℕ → ℕ → List ℕ → Areas → Printed
lines_of w n b a = print_lines w n (call_count b) b a

-- the next call's bytes, 18 or all that is left, and the rest
cut_18 : (piece rest : List ℕ) → length piece ≡ min 18 (length (piece ++ rest)) → (take 18 (piece ++ rest) ≡ piece) × (drop 18 (piece ++ rest) ≡ rest)
cut_18 piece [] long =
    let few : length (piece ++ []) ≤ 18 = rw append-nil (omega (arith, rw append-nil at long)) in
    (take_all 18 (piece ++ []) few ∙ append-nil piece, drop_all 18 (piece ++ []) few)
cut_18 piece (x ∷ rest) long =
    let whole : length piece ≡ 18 = omega (arith, rw length-append at long) in
    (take_at piece (x ∷ rest) 18 whole, drop_at piece (x ∷ rest) 18 whole)

-- an input with bytes is its next call and the rest
next_call : (w n : ℕ) (b piece rest : List ℕ) (a : Areas) → b ≡ piece ++ rest → length piece ≡ min 18 (length b) → 0 < length b
    → lines_of w n b a ≡ record {
      text = (print_bytes w n piece a).text ++ (lines_of w (n + 1) rest (print_bytes w n piece a).areas).text;
      areas = (lines_of w (n + 1) rest (print_bytes w n piece a).areas).areas;
    }
unfolding print_lines call_count
next_call w n b piece rest a e long some =
    let split : length b ≡ length piece + length rest = rw (e, length-append) in
    let count : (length b + 17) / 18 ≡ suc ((length rest + 17) / 18) = omega arith in
    let cut = cut_18 piece rest (rw e at long) in
    rw (count, add-one n, e, cut.0, cut.1)

-- the calls of an input from number n on, on areas a, their lines into the buffer empty
module _ (w n : ℕ) (input : List ℕ) (a : Areas) (empty : List ℕ) where
  -- what is left of the input is to be run from number m on, over the areas b; the lines so far stand in the text
  pub record Ran (m : ℕ) (left : List ℕ) (b : Areas) (t : Text) : Type 0 where
    pub lines : lines_of w n input a ≡ record {
      text = take t.end t.bytes.now ++ (lines_of w m left b).text;
      areas = (lines_of w m left b).areas;
    }
    pub text : Writes (take t.end t.bytes.now) empty t.bytes.now t.end

  pub ran_on : (v m m₁ : ℕ) (left piece rest : List ℕ) (b c : Areas) (t u : Text) → v ≡ w → m₁ ≡ m + 1 → left ≡ piece ++ rest
      → length piece ≡ min 18 (length left) → 0 < length left → Ran m left b t → PrintsAfter (print_bytes v m piece b) c t u → Ran m₁ rest c u
  ran_on v m m₁ left piece rest b c t u f g e long some r q =
      let x : Printed = print_bytes w m piece b in
      let p : PrintsAfter x c t u = rw f at q in
      let written : Writes (take t.end t.bytes.now ++ x.text) empty u.bytes.now u.end = p.1.appended empty (take t.end t.bytes.now) r.text in
      let text : take u.end u.bytes.now ≡ take t.end t.bytes.now ++ x.text =
      ap (take u.end) written.1 ∙ take_at (take t.end t.bytes.now ++ x.text) _ u.end (sym written.0) in
      record { lines = r.lines ∙ rw (next_call w m left piece rest b e long some, text, p.0, g, append_assoc); text = rw text written }

  pub ran_end : (m : ℕ) (left : List ℕ) (b : Areas) (t : Text) → length left ≡ 0 → Ran m left b t
      → Prints (lines_of w n input a) b empty t.bytes.now t.end × IsPrefixLen t.end t.bytes.now
  unfolding print_lines call_count
  ran_end m left b t e r =
      let none : (length left + 17) / 18 ≡ 0 = omega arith in
      let within : t.end ≤ length t.bytes.now = rw (r.text.1, length-append) (omega (arith, r.text.0)) in
      (rw (r.lines, none, append-nil) (refl, r.text), (within, r.text.0))
