-- Laws of the parts of areas of 64 KiB: no area above them, so each has room.
use mathlib.Core.Path.{◌≡◌}
use mathlib.Core.Bool.{false}
use Prim.Native.Nat.{◌*◌, ◌≤◌}
use Rattle.std.proofs.lemmas.List.{length-take}
use Rattle.theory.specs.Settings.{Card, ledger_length, true_length, clipped_length, buckets_length, side_length, work_length}
use Rattle.theory.specs.Trials.{area_above}
use Rattle.theory.proofs.TrialLaws.{within_64k}

module _ (s : Card) (within : area_above s ≡ false) where
  pub ledger_room : ledger_length s ≤ 65536
  ledger_room = (within_64k s within).ledger

  pub true_room : 2 * true_length s ≤ 65536
  true_room = (within_64k s within).true_counts

  pub clipped_room : clipped_length s ≤ 65536
  clipped_room = (within_64k s within).clipped_counts

  pub buckets_room : buckets_length s ≤ 65536
  buckets_room = (within_64k s within).buckets

  pub side_room : side_length s ≤ 65536
  side_room = (within_64k s within).side_store

  pub work_room : 2 * work_length s ≤ 65536
  work_room = (within_64k s within).work

pub ruleset rooms = (length-take, ledger_room, true_room, clipped_room, buckets_room, side_room, work_room)
