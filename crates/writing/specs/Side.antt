-- The records that a placement sends to the side.
use Rattle.std.specs.Prelude.{List, ℕ}
use Rattle.theory.specs.Lists.{filter}
use Rattle.theory.specs.Records.{Record, records}
use Rattle.theory.specs.Settings.{Card}
use Rattle.theory.specs.Layout.{places}
use Rattle.placing.specs.declared.Placement.{Placement}
use Rattle.placing.specs.Worked.{nth, belongs_by}

unfoldable pub sent_to_side : Card → Placement → List Record → List Record
sent_to_side s p l = filter (λ r. belongs_by s (nth p.counts.now) (nth p.choosers.now) r.key) l

-- of the first i records of an area; and the side store's record places with them
abbrev pub sent : Card → Placement → ℕ → List ℕ → List Record
sent s p i area = sent_to_side s p (records s.width i area)

abbrev pub sent_places : Card → Placement → ℕ → List ℕ → List ℕ
sent_places s p i area = places s s.side_places (sent s p i area)
