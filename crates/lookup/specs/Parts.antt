-- The part that the second search call hands back, with its place in memory.
use Rattle.std.specs.Prelude.{◌≡◌, Bool, true, false, List, [], ℕ, ◌+◌, ◌≤◌, eqb, length, take, drop}
use Rattle.std.specs.Borrow.{Bor}
use Rattle.theory.specs.Settings.{Settings, card_of, record_size}
use Rattle.theory.specs.Lookup.{RecordPlace, record_place}
use Rattle.theory.specs.Ledger.{fetch, Step, handed}
use Rattle.theory.specs.Layout.{Areas}
use Rattle.theory.specs.Calls.{perform}
use Rattle.lookup.specs.Answers.{lookup_areas}

-- r is the part of so many bytes of a slice that starts at byte `at`: it lies there in memory
pub record PartAt (size at : ℕ) (slice r : Bor (List ℕ)) : Type 0 where
  pub inside : at + size ≤ length slice.now
  pub bytes : r.now ≡ take size (drop at slice.now)
  pub there : r.ref_ptr ≡ (slice.ref_ptr.0, at + slice.ref_ptr.1)

-- one of two slices
abbrev pub one_of : Bool → Bor (List ℕ) → Bor (List ℕ) → Bor (List ℕ)
one_of true a b = a
one_of false a b = b

-- r is the record of that place, out of the buckets or out of the side store
abbrev pub RecordAt : ℕ → RecordPlace → Bor (List ℕ) → Bor (List ℕ) → Bor (List ℕ) → Type 0
RecordAt size x buckets side r = PartAt size x.start (one_of (eqb x.area 1) buckets side) r

-- the second search call on every input: `perform`'s part; and, unless it is the empty part, it lies where the record of the key does
pub record FetchedCall (t : Settings) (clipped : List ℕ) (buckets side : Bor (List ℕ)) (key : List ℕ) (r : Bor (List ℕ)) : Type 0 where
  pub is : ◌≡◌ {A = Step Areas} (record { reply = handed r.now; state = lookup_areas clipped buckets.now side.now })
      (perform t 0 (fetch key) (lookup_areas clipped buckets.now side.now))
  pub lies : (r.now ≡ [] → ⊥) → RecordAt (record_size (card_of t)) (record_place (card_of t) clipped buckets.now side.now key) buckets side r
