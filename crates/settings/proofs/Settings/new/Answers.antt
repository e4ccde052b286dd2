-- its tests are those of `in_ranges`, and each answer rewrites with the values of them
use Rattle.std.proofs.Common.{◌∙◌}
use mathlib.Core.Path.{sym}
use mathlib.Core.Bool.{and-true, and-false}
use Rattle.theory.specs.Settings.{allowed, in_ranges}
use Rattle.settings.proofs.Settings.new.Goals as goal

pub returns-then-not-width_allowed : goal.returns-then-not-width_allowed
unfolding allowed in_ranges
returns-then-not-width_allowed c = rw (sym c.width_allowed.ensures ∙ c.if-not-width_allowed.true, and-false, and-false, and-false, and-false, and-false, and-false)

pub returns-then-not-p_within-k_within : goal.returns-then-not-p_within-k_within
unfolding allowed in_ranges
returns-then-not-p_within-k_within c = rw (sym c.width_allowed.ensures ∙ c.if-not-width_allowed.false, and-true, c.if-not-p_within-k_within.true)

pub returns : goal.returns
unfolding allowed in_ranges
returns c = rw (sym c.width_allowed.ensures ∙ c.if-not-width_allowed.false, and-true, c.if-not-p_within-k_within.false)
