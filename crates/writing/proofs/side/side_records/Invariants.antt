-- Of the first i records those that belong to the side are in the store, and the free place is after them.
use Rattle.std.proofs.Common.{◌≡◌, ◌*◌, length}
use Rattle.theory.specs.Settings.{record_size}
use Rattle.settings.specs.Checked.{card}
use Rattle.writing.specs.Side.{sent, sent_places}
use Rattle.writing.proofs.side.side_records.Given as goal

abbrev pub invariant-loop-i : goal.invariant-loop-i
invariant-loop-i l =
    (l.free ≡ record_size (card l.s) * length (sent (card l.s) l.placement l.i l.area)) × (l.store ≡ sent_places (card l.s) l.placement l.i l.area)
