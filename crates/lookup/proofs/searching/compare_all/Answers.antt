-- `lookup::searching::compare_all` meets its contract, by what the scan says, in both cases of what it found.
use Rattle.std.proofs.Common.{◌≡◌, ◌+◌, ◌*◌, ℕ, List, length, take, drop, cond}
use Rattle.std.specs.Prelude.{Option, None, Some, is_some, unwrap_or}
use lib.Seq.{drop-drop}
use Rattle.theory.specs.Records.{class_width, of_bytes, record_at}
use Rattle.theory.specs.Lookup as plain
use Rattle.lookup.specs.Scanning.{IsPlaceOf}
use Rattle.lookup.specs.Answers.{compared}
use Rattle.lookup.proofs.searching.compare_all.Goals as goal

found : (place key : List ℕ) (n read side : ℕ) (hit : Option ℕ) → IsPlaceOf key n place hit → (class : ℕ)
    → class ≡ of_bytes (take class_width (drop (unwrap_or hit 0 * (length key + 4) + length key) place))
    → ◌≡◌ {A = plain.Answer} (record {
      number = cond (is_some hit) 0 100;
      class = cond (is_some hit) class 0;
      buckets_read = read;
      records_compared = cond (is_some hit) (unwrap_or hit 0 + 1) n;
      side_compared = side;
    }) (compared place n key read side)
unfolding record_at
found place key n read side None h class e = rw (h.finds, h.compares)
found place key n read side (Some i) h class e = rw (h.finds, h.compares, e) (rw (drop-drop (length key) (i * (length key + 4)) place))

pub returns : goal.returns
returns c =
    rw (c.pick.ensures, c.pick-2.ensures, c.pick-3.ensures, c.is_some-found.ensures, c.unwrap_or-i.ensures)
    (found c.args.place.now c.args.key.now c.args.n c.args.read c.args.side c.scan_all-hit.result c.scan_all-hit.ensures _
    (rw c.unwrap_or-i.ensures at c.class_at-class.ensures))
