-- The table of the definitions is right at each entry, and a table of its length that is right at each entry is that table.
use mathlib.Core.Path.{◌≡◌, sym, ap, ◌∙◌, subst}
use mathlib.Core.List.{List, map}
use Prim.Native.Nat.{ℕ, ◌+◌, ◌*◌, ◌/◌, ◌%◌, ◌^◌, ◌<◌}
use native.Mathlib.Nat.{zero-add, mul_comm, mod-lt, div-add-mod', div-lt_iff_lt-mul}
use lib.Pow.{pow_pos}
use lib.ListN.{length, get_or, drop, length-map}
use lib.Seq.{get_or-take, get_or-drop, ext_get_or}
use Rattle.theory.specs.Lists.{flat, upto}
use Rattle.theory.specs.Hash.{rows_of}
use Rattle.theory.proofs.ListLaws.{all_every, length_upto, getD_map_upto, length_flat, piece}
use Rattle.hash.specs.Digits.{TableRight, table_length, table_entries_at, table_entries}

-- an entry of pieces of one size
at : (f : ℕ → ℕ → ℕ) (z w a v : ℕ) → a < w → v < z → get_or (flat (λ b. map (f b) (upto 0 z)) (upto 0 w)) (a * z + v) 0 ≡ f a v
at f z w a v ha hv =
    let l : List ℕ = flat (λ b. map (f b) (upto 0 z)) (upto 0 w) in
    sym (get_or-take z (drop (a * z) l) v 0 hv ∙ get_or-drop (a * z) l v 0)
    ∙ ap (λ (x : List ℕ). get_or x v 0) (piece (λ b. map (f b) (upto 0 z)) z (λ b. length-map (upto 0 z) (f b) ∙ length_upto 0 z) 0 w a ha)
    ∙ getD_map_upto (f (0 + a)) 0 z v 0 hv
    ∙ rw (zero-add a, zero-add v)

module _ (bits places : ℕ) where
  pub table_entries_right : TableRight bits places (table_entries bits places)
  unfolding table_entries table_entries_at
  table_entries_right = record { entry = at (λ a v. rows_of bits (bits * a) v) (2 ^ bits) places }

  pub length_table_entries : length (table_entries bits places) ≡ table_length bits places
  unfolding table_entries table_entries_at
  length_table_entries =
      let each = all_every (λ a. length-map (upto 0 (2 ^ bits)) (λ v. rows_of bits (bits * a) v) ∙ length_upto 0 (2 ^ bits)) (upto 0 places) in
      length_flat (table_entries_at bits) (2 ^ bits) (upto 0 places) each ∙ rw (length_upto 0 places) (mul_comm (2 ^ bits) places)

  pub right_table_entries : (t : List ℕ) → TableRight bits places t → length t ≡ table_length bits places → t ≡ table_entries bits places
  right_table_entries t right e =
      ext_get_or 0 t (table_entries bits places) (e ∙ sym length_table_entries)
      (λ i h. let a = i / 2 ^ bits in
      let v = i % 2 ^ bits in
      let within : a < places = (div-lt_iff_lt-mul (pow_pos bits)).1 (subst (λ (n : ℕ). i < n) e h) in
      let small : v < 2 ^ bits = mod-lt i (pow_pos bits) in
      subst (λ (k : ℕ). get_or t k 0 ≡ get_or (table_entries bits places) k 0) (div-add-mod' i (2 ^ bits))
      (right.entry a v within small ∙ sym (table_entries_right.entry a v within small)))
