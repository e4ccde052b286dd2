-- After c numbers, the greatest of them whose count is not zero.
use Rattle.std.proofs.Common.{◌≡◌}
use Rattle.window.proofs.WindowAreaLaws.{greatest_below, met}
use Rattle.window.proofs.greatest_compared.Given as goal

abbrev pub invariant-loop-compared : goal.invariant-loop-compared
invariant-loop-compared l = l.greatest ≡ greatest_below (met l.words) l.compared
