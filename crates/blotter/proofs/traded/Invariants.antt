use Prim.Native.Nat.{◌≤◌}
use lib.ListN.{get_or}
use Rattle.margin.specs.Margin.{trades_cost}
use Rattle.margin.proofs.BySeries.{Holds}
use Rattle.blotter.proofs.traded.Given as goal

abbrev pub invariant-loop-trade : goal.invariant-loop-trade
invariant-loop-trade l =
    (l.trade-index ≤ l.trades) × Holds l.out (λ i a. trades_cost l.fn.blotter l.trade-index i (get_or l.coefficients i 0) a)
