use mathlib.Core.Path.{◌≡◌}
use Rattle.integer.specs.Sum.{sumℕ}
use Rattle.places.specs.Places.{amount}
use Rattle.delivery.proofs.total.Given as goal

abbrev pub invariant-loop-number : goal.invariant-loop-number
invariant-loop-number l = l.sum ≡ sumℕ l.number-index (amount l.fn.exercised)
