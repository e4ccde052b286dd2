-- An accepted search's entry is put in, in a full window for the oldest.
use Rattle.std.proofs.Common.{sym, ◌∙◌, arith}
use Rattle.window.specs.Windows.{enter_of}
use Rattle.window.proofs.WindowAreaLaws.{not_right, refused, entered_full, entered}
use Rattle.window.proofs.enter.Goals as goal

pub returns-then-words-ne-LENGTH : goal.returns-then-words-ne-LENGTH
unfolding enter_of
returns-then-words-ne-LENGTH c = rw (not_right _ _ c.then-words-ne-LENGTH.either)

pub returns-then-not-accepted : goal.returns-then-not-accepted
returns-then-not-accepted c =
    refused (record { long = c.if-words-ne-LENGTH.false; three = c.if-counts-ne3.false }) c.args.found (sym c.accepted.ensures ∙ c.if-not-accepted.true)

pub returns-then-from-ge-SIZE : goal.returns-then-from-ge-SIZE
returns-then-from-ge-SIZE c =
    entered_full (record { long = c.if-words-ne-LENGTH.false; three = c.if-counts-ne3.false }) c.args.found (sym c.accepted.ensures ∙ c.if-not-accepted.false)
    c.of_search-e.ensures (omega (arith, c.if-from-ge-SIZE.true, c.from.ensures)) c.put_for_oldest.ensures

pub returns-else-from-ge-SIZE : goal.returns-else-from-ge-SIZE
returns-else-from-ge-SIZE c =
    entered (record { long = c.if-words-ne-LENGTH.false; three = c.if-counts-ne3.false }) c.args.found (sym c.accepted.ensures ∙ c.if-not-accepted.false)
    c.of_search-e.ensures (omega (arith, c.if-from-ge-SIZE.false, c.from.ensures)) c.put_in.ensures
