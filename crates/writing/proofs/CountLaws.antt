-- What the writers of true counts and of clipped counts ask: one byte of clipped counts, all of them, and the true counts of a placed list.
use mathlib.Core.Path.{◌≡◌, sym, ap, ◌∙◌}
use mathlib.Core.List.{List, map}
use Prim.Native.Nat.{ℕ, ◌+◌, ◌*◌, ◌/◌, ◌<◌, min}
use native.Mathlib.Nat.{zero-add}
use lib.ListN.{length, get_or, length-map}
use lib.Seq.{ext_get_or}
use Rattle.theory.specs.Lists.{upto}
use Rattle.theory.specs.Records.{Record}
use Rattle.theory.specs.Settings.{Card}
use Rattle.theory.specs.Placing.{clip, true_count}
use Rattle.theory.specs.Layout.{counter_bytes}
use Rattle.theory.proofs.ListLaws.{length_upto, getD_map_upto}
use Rattle.placing.specs.declared.Placement.{Placement}
use Rattle.placing.specs.Worked.{nth, Placed}
use Rattle.placing.proofs.WorkLaws.{counts_are}
use Rattle.writing.specs.Counts.{clipped_byte, clipped_bytes}

-- ---- clipped counts
module _ (top : ℕ) (c : ℕ → ℕ) (n : ℕ) where
  pub clipped_length : length (clipped_bytes top c n) ≡ n
  unfolding clipped_bytes
  clipped_length = length-map (upto 0 n) (clipped_byte top c) ∙ length_upto 0 n

  pub clipped_at : (i low high : ℕ) → i < n → low ≡ min (c (2 * i)) top → high ≡ min (c (2 * i + 1)) top
      → low + 16 * high ≡ get_or (clipped_bytes top c n) i 0
  unfolding clipped_bytes clipped_byte
  clipped_at i low high h f g = rw (f, g) (sym (getD_map_upto (clipped_byte top c) 0 n i 0 h ∙ ap (clipped_byte top c) (zero-add i)))

clipped_all : (s : Card) (c : ℕ → ℕ) (top n : ℕ) → top ≡ s.top → n ≡ s.buckets / 2 → clipped_bytes top c n ≡ counter_bytes s c
unfolding clipped_bytes clipped_byte counter_bytes clip
clipped_all s c top n e f = rw (e, f)

-- ---- the counts of a placed list
pub clipped_are : {s : Card} {l : List Record} {p : Placement} → Placed s l p → {top n : ℕ} → top ≡ s.top → n ≡ s.buckets / 2
    → clipped_bytes top (nth p.counts.now) n ≡ counter_bytes s (true_count s l)
clipped_are {s} {l} {p} g {top} {n} e f = clipped_all s (nth p.counts.now) top n e f ∙ ap (counter_bytes s) (counts_are g)

pub true_counts_are : {s : Card} {l : List Record} {p : Placement} → Placed s l p → p.counts.now ≡ map (true_count s l) (upto 0 s.buckets)
true_counts_are {s} {l} {p} g =
    ext_get_or 0 p.counts.now (map (true_count s l) (upto 0 s.buckets)) (rw (g.counts_length, length-map, length_upto))
    (λ i q. let below : i < s.buckets = rw g.counts_length at q in g.counts i ∙ sym (getD_map_upto (true_count s l) 0 s.buckets i 0 below ∙ rw (zero-add i)))
