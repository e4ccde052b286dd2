-- The settings of the code and those of the paper, field by field, and what checking seven numbers answers.
use Rattle.std.specs.Prelude.{cond, Result, Ok, Err}
use Rattle.theory.specs.Settings as plain
use Rattle.memory.specs.declared.refusals.Refusal.{Refusal}
use Rattle.memory.specs.declared.refusals.Refusal.TheVariants.{SettingOutOfRange}
use Rattle.settings.specs.declared.Settings.{Settings}
use Rattle.settings.specs.declared.Given.{Given}

abbrev pub paper : Settings → plain.Settings
paper c = record { p = c.p; k = c.k; room = c.room; top = c.top; capacity = c.capacity; side_places = c.side_places; width = c.width }

-- the card of the code's settings
abbrev pub card : Settings → plain.Card
card c = plain.card_of (paper c)

abbrev pub code : plain.Settings → Settings
code t = record { p = t.p; k = t.k; room = t.room; top = t.top; capacity = t.capacity; side_places = t.side_places; width = t.width }

-- the settings that a caller's numbers say
abbrev pub given_of : Given → plain.Settings
given_of g = record { p = g.p; k = g.k; room = g.room; top = g.top; capacity = g.capacity; side_places = g.side_places; width = g.width }

-- settings in their ranges are handed over; others are refusal 1
abbrev pub checked_of : plain.Settings → Result Settings Refusal
checked_of t = cond (plain.allowed t) (Ok (code t)) (Err SettingOutOfRange)
