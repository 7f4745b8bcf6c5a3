use Prim.Native.Nat.{◌≤◌}
use lib.IntN.{pos, ◌-ℤ◌, ◌*ℤ◌}
use Rattle.integer.specs.Table.{at}
use Rattle.places.specs.Places.{of_account}
use Rattle.terms.specs.Bounds.{accounts}
use Rattle.margin.proofs.BySeries.{RowChanged}
use Rattle.amounts.proofs.revalue.Given as goal

abbrev pub invariant-loop-a : goal.invariant-loop-a
invariant-loop-a l =
    (l.a ≤ accounts) × RowChanged l.series l.a l.amounts l.initial.amounts (λ k cost. of_account (at l.positions) k *ℤ pos l.price_value -ℤ of_account (at l.opening) k *ℤ pos l.evening_value -ℤ cost)
