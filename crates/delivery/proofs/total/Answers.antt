-- `delivery::total` meets its contract: the sum so far is that of the places passed, and no more than that of all.
use mathlib.Core.Path.{sym}
use Prim.Native.Nat.{◌+◌}
use native.Mathlib.Omega.{arith}
use Rattle.integer.proofs.NatSum.{sumℕ_zero, sumℕ_next, sumℕ_up}
use Rattle.places.specs.Places.{places, amount}
use Rattle.delivery.proofs.total.Goals as goal

pub loop-number-init : goal.loop-number-init
loop-number-init c = sym (sumℕ_zero _)

pub overflow_add-sum : goal.overflow_add-sum
overflow_add-sum c =
    let i = c.loop-number.number-index in
    let f = amount c.args.exercised in
    omega (arith, sumℕ_next i f, sumℕ_up places (i + 1) f (omega arith))

pub loop-number-preserved : goal.loop-number-preserved
loop-number-preserved c = omega (arith, sumℕ_next c.loop-number.number-index (amount c.args.exercised))
