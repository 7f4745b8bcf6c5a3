use mathlib.Core.Path.{◌≡◌}
use Prim.Native.Nat.{◌≤◌}
use Rattle.integer.specs.Sum.{sum_to}
use Rattle.integer.specs.Table.{at}
use Rattle.terms.specs.Bounds.{series_room}
use Rattle.margin.specs.BySeries.{cell}
use Rattle.amounts.proofs.of_account.Given as goal

abbrev pub invariant-loop-i : goal.invariant-loop-i
invariant-loop-i l =
    (l.i ≤ series_room) × (l.sum ≡ sum_to l.i (λ j. at l.amounts (cell j l.account)))
