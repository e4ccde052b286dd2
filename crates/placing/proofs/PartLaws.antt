-- A part of whole records: how many it holds, that the front of an area which a caller lends as a part has the area's first records, and what a loop over
-- the chunks of a part asks.
use mathlib.Core.Path.{◌≡◌, refl, sym, ap, ◌∙◌}
use mathlib.Core.List.{List, ◌++◌}
use Prim.Native.Nat.{ℕ, zero, suc, ◌+◌, ◌-◌, ◌*◌, ◌/◌, ◌<◌, ◌≤◌}
use native.Mathlib.Nat.{zero-mul}
use native.Mathlib.Omega.{arith}
use lib.ListN.{length, take, drop, length-append, length-drop}
use lib.Seq.{length-take-le, take_at, drop_at, drop-drop}
use denote.Ref.{Bor}
use Rattle.std.proofs.Math.Nat.{mul-div_cancel, div-eq_of_lt-le, le-div_iff_mul-le}
use Rattle.std.proofs.lemmas.List.{take-take, drop-take}
use Rattle.std.proofs.Common.{Some, None}
use Rattle.std.specs.declared.slice.ChunksExact.{ChunksExact}
use Rattle.std.specs.Slice.Iter.{chunks_exact_rest, chunks_exact_size, chunks_exact_steps}
use Rattle.theory.specs.Records.{entries, record_at, records}
use Rattle.theory.specs.Settings.{Card, record_size}
use Rattle.placing.specs.Worked.{held}

-- the records of the front of an area, past which are other bytes
record_front : (w k : ℕ) (a : List ℕ) → w + 4 ≤ k → record_at w (take k a) ≡ record_at w a
unfolding record_at
record_front w k a enough =
    let e : k ≡ w + (k - w) = omega arith in
    let class : take 4 (drop w (take k a)) ≡ take 4 (drop w a) = rw (e, drop-take w (k - w) a, take-take 4 (k - w) (drop w a) (omega arith)) in
    rw (take-take w k a (omega arith), class)

records_front : (w n : ℕ) (a : List ℕ) → n * (w + 4) ≤ length a → records w n (take (n * (w + 4)) a) ≡ records w n a
unfolding records entries
records_front w zero a fits = refl
records_front w (suc n) a fits =
    let rest : suc n * (w + 4) ≡ w + 4 + n * (w + 4) = omega arith in
    let past : n * (w + 4) ≤ length (drop (w + 4) a) = rw length-drop (omega arith) in
    rw (record_front w (suc n * (w + 4)) a (omega arith), rest, drop-take (w + 4) (n * (w + 4)) a, records_front w n (drop (w + 4) a) past)

module _ (w n : ℕ) (a : List ℕ) (fits : n * (w + 4) ≤ length a) where
  pub held_front : held w (take (n * (w + 4)) a) ≡ n
  held_front = rw (length-take-le (n * (w + 4)) a fits) (mul-div_cancel n (omega arith))

  pub front_records : records w n (take (n * (w + 4)) a) ≡ records w n a
  front_records = records_front w n a fits

  pub part_records : (b : List ℕ) → b ≡ take (n * (w + 4)) a → records w (held w b) b ≡ records w n a
  part_records b e = rw (e, held_front, front_records)

-- how many records of a size, where the size is the card's
pub held_is : (s : Card) {size : ℕ} → size ≡ record_size s → (a : List ℕ) → length a / size ≡ held s.width a
unfolding record_size
held_is s e a = ap (λ (z : ℕ). length a / z) e

-- ---- after i chunks of a part
pub record Rest (part : List ℕ) (size i : ℕ) (s : ChunksExact ℕ) : Type 0 where
  pub size_is : chunks_exact_size s ≡ size
  pub within : i * size ≤ length part
  pub rest_is : chunks_exact_rest s ≡ drop (i * size) part

pub record Chunk (part : List ℕ) (size i : ℕ) (x : List ℕ) (t : ChunksExact ℕ) : Type 0 where
  pub is : x ≡ take size (drop (i * size) part)
  pub long : length x ≡ size
  pub next : Rest part size (i + 1) t

pub chunks_start : {part : List ℕ} {size : ℕ} {s t : ChunksExact ℕ} → t ≡ s → chunks_exact_rest s ≡ part → chunks_exact_size s ≡ size → Rest part size 0 t
chunks_start e f g = rw e (record { size_is = g; within = omega arith; rest_is = rw zero-mul f })

module _ {part : List ℕ} {size i : ℕ} {s : ChunksExact ℕ} (rest : Rest part size i s) where
  pub chunks_few : 0 < size → i ≤ length part / size
  chunks_few some = (le-div_iff_mul-le some).1 rest.within

module _ {part : List ℕ} {size i : ℕ} {s t : ChunksExact ℕ} (rest : Rest part size i s) where
  pub chunk : (x : Bor (List ℕ)) → chunks_exact_steps s (Some x) t → Chunk part size i x.now t
  chunk x step =
      let here : drop (i * size) part ≡ x.now ++ chunks_exact_rest t = sym rest.rest_is ∙ step.1.0 in
      let long : length x.now ≡ size = step.1.1 ∙ rest.size_is in
      let next : (i + 1) * size ≡ i * size + size = omega arith in
      let left : length part - i * size ≡ length x.now + length (chunks_exact_rest t) = sym (length-drop (i * size) part) ∙ ap length here ∙ length-append x.now _ in
      record {
        is = rw (here, take_at x.now (chunks_exact_rest t) size long);
        long = long;
        next = record {
          size_is = step.0 ∙ rest.size_is;
          within = omega (arith, rest.within);
          rest_is = rw (next, ← drop-drop size (i * size) part, here, drop_at x.now (chunks_exact_rest t) size long);
        };
      }

  pub chunks_end : 0 < size → chunks_exact_steps s None t → i ≡ length part / size
  chunks_end some step =
      let short : length (drop (i * size) part) < size = rw (← rest.rest_is, ← rest.size_is) step.1.0 in
      let short_left : length part - i * size < size = rw length-drop at short in
      let next : (i + 1) * size ≡ i * size + size = omega arith in
      sym (div-eq_of_lt-le size rest.within (omega (arith, next, rest.within)))

-- the key of this chunk is the key of the area's record i
pub chunk_key : {part : List ℕ} {size i : ℕ} {t : ChunksExact ℕ} (w : ℕ) (x : List ℕ) → Chunk part size i x t → w ≤ size
    → take w x ≡ take w (drop (i * size) part)
chunk_key {part} {size} {i} w x here le = rw (here.is, take-take w size (drop (i * size) part) le)
