-- Each turn compares the key of the record in the middle, which lies among the records; where low and high have met, the key's record stands or belongs.
use Rattle.std.proofs.Common.{◌≢◌, List, ℕ, ◌+◌, ◌-◌, ◌*◌, ◌/◌, ◌<◌, ◌≤◌, length, sym, ap, ◌∙◌, arith}
use Rattle.theory.specs.Records.{records, same_key, key_below}
use Rattle.theory.proofs.ByteLaws.{length_records}
use Rattle.ledger.proofs.RisingLaws.{Row, row_room, row_wide, row_key}
use Rattle.ledger.proofs.SpotLaws.{Halving, halving_start, halving_up, halving_down, found_end, found_stands, found_belongs}
use Rattle.ledger.proofs.spots.find_spot.Goals as goal

-- ---- the records of n, in the code's numbers: the one in the middle, and the one where low and high have met
module _ (w n : ℕ) (a k : List ℕ) (low high : ℕ) (h : Halving (records w n a) k low high) (room : n * (w + 4) ≤ length a) where
  middle : low < high → Row w n a (low + (high - low) / 2)
  middle lt = record { all = room; listed = omega (arith, h.within, length_records w n a) }

  met : high ≤ low → low ≢ n → Row w n a low
  met le ne = record { all = room; listed = omega (arith, h.order, h.within, length_records w n a) }

pub loop-low-init : goal.loop-low-init
loop-low-init c = halving_start _ _ c.args.n (length_records _ _ _) c.requires.rising

pub key_at-requires : goal.key_at-requires
key_at-requires c = omega (arith, row_room (middle _ _ _ _ _ _ c.loop-low.invariant c.requires.room c.loop-low-test.true))

pub below_key-requires : goal.below_key-requires
below_key-requires c = ap length c.key_at.ensures ∙ row_wide (middle _ _ _ _ _ _ c.loop-low.invariant c.requires.room c.loop-low-test.true)

pub loop-low-preserved-then-below_key : goal.loop-low-preserved-then-below_key
loop-low-preserved-then-below_key c =
    let key = c.key_at.ensures ∙ row_key (middle _ _ _ _ _ _ c.loop-low.invariant c.requires.room c.loop-low-test.true) in
    halving_up c.loop-low.invariant _ (omega arith) (ap (λ k. key_below k c.args.key.now) (sym key) ∙ sym c.below_key.ensures ∙ c.if-below_key.true)

pub loop-low-preserved : goal.loop-low-preserved
loop-low-preserved c =
    let key = c.key_at.ensures ∙ row_key (middle _ _ _ _ _ _ c.loop-low.invariant c.requires.room c.loop-low-test.true) in
    halving_down c.loop-low.invariant _ (omega arith) (omega arith) (ap (λ k. key_below k c.args.key.now) (sym key) ∙ sym c.below_key.ensures ∙ c.if-below_key.false)

pub returns-then-low-n : goal.returns-then-low-n
returns-then-low-n c = found_end c.loop-low.invariant c.loop-low-test.false (omega (arith, length_records (length c.args.key.now) c.args.n c.args.places.now))

pub key_at-requires-2 : goal.key_at-requires-2
key_at-requires-2 c = omega (arith, row_room (met _ _ _ _ _ _ c.loop-low.invariant c.requires.room c.loop-low-test.false c.if-low-n.false))

pub same_key-requires : goal.same_key-requires
same_key-requires c = sym (ap length c.key_at-2.ensures ∙ row_wide (met _ _ _ _ _ _ c.loop-low.invariant c.requires.room c.loop-low-test.false c.if-low-n.false))

pub returns-then-same_key : goal.returns-then-same_key
returns-then-same_key c =
    let row = met _ _ _ _ _ _ c.loop-low.invariant c.requires.room c.loop-low-test.false c.if-low-n.false in
    found_stands c.loop-low.invariant c.loop-low-test.false (omega (arith, row.listed, length_records (length c.args.key.now) c.args.n c.args.places.now))
    (sym c.if-same_key.true ∙ c.same_key.ensures ∙ ap (same_key c.args.key.now) (c.key_at-2.ensures ∙ row_key row))

pub returns-else-same_key : goal.returns-else-same_key
returns-else-same_key c =
    let row = met _ _ _ _ _ _ c.loop-low.invariant c.requires.room c.loop-low-test.false c.if-low-n.false in
    found_belongs c.loop-low.invariant c.loop-low-test.false (omega (arith, row.listed, length_records (length c.args.key.now) c.args.n c.args.places.now))
    (sym c.if-same_key.false ∙ c.same_key.ensures ∙ ap (same_key c.args.key.now) (c.key_at-2.ensures ∙ row_key row))
