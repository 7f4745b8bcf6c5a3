-- `blotter::amount` meets its contract: the product fits.
use Prim.Native.Nat.{ℕ, ◌*◌, ◌≤◌}
use native.Mathlib.Nat.{mul-le-mul}
use native.Mathlib.Omega.{arith}
use mathlib.Core.Path.{ap, ◌∙◌}
use lib.IntN.{pos}
use mir.Syntax.{w64}
use Rattle.integer.proofs.Machine.{nat}
use Rattle.margin.specs.Bounds.{max_value, max_due}
use Rattle.margin.proofs.Bounds.{option_value_bound}
use Rattle.blotter.proofs.amount.Goals.{After-struct_known-1}
use Rattle.blotter.proofs.amount.Goals as goal

worth_small : (c : After-struct_known-1) → c.value-worth.result ≤ max_value
worth_small c = rw c.value-worth.ensures (option_value_bound _ _ c.requires.coefficient_le_max_tick_value c.requires.trade_within.price)

within : (c : After-struct_known-1) → c.args.trade.quantity * c.value-worth.result ≤ max_due
within c = mul-le-mul c.requires.trade_within.quantity (worth_small c)

pub overflow_mul-result : goal.overflow_mul-result
overflow_mul-result c = omega (arith, within c)

pub overflow_cast-result-2 : goal.overflow_cast-result-2
overflow_cast-result-2 c = omega (arith, within c)

pub returns : goal.returns
returns c =
    (nat w64 (within c) tt).is
    ∙ ap (λ (v : ℕ). pos (c.args.trade.quantity * v)) c.value-worth.ensures
