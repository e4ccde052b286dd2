-- `trials::playing::play_in_parts` meets its contract: no area is above 64 KiB, so each part lies in the area that is lent.
use Rattle.std.proofs.Common.{arith}
use Rattle.std.proofs.lemmas.Grind.{common_steps}
use Rattle.trials.proofs.RoomLaws.{rooms}
use Rattle.trials.proofs.playing.play_in_parts.Goals as goal

pub play_cleared-requires-clause-parts : goal.play_cleared-requires-clause-parts
play_cleared-requires-clause-parts c =
    record {
      ok = c.requires.ok;
      words = grind (arith, common_steps, rooms);
      sized = record {
        ledger = grind (arith, common_steps, rooms);
        true_counts = grind (arith, common_steps, rooms);
        clipped_counts = grind (arith, common_steps, rooms);
        buckets = grind (arith, common_steps, rooms);
        side_store = grind (arith, common_steps, rooms);
      };
    }
