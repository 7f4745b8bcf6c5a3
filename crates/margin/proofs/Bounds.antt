-- How large the value of an option price can be.
use mathlib.Core.Path.{◌≡◌, refl}
use Prim.Native.Nat.{ℕ, ◌≤◌}
use Rattle.terms.specs.Bounds.{max_option_price, max_tick_value}
use Rattle.value.specs.Rounding.{nearest}
use Rattle.value.specs.Value.{value_of}
use Rattle.value.proofs.Bounds.{value_bound}
use Rattle.margin.specs.Bounds.{max_value}

max_value_lem : value_of max_tick_value max_option_price ≡ max_value
unfolding nearest
max_value_lem = refl

pub option_value_bound : (c p : ℕ) → c ≤ max_tick_value → p ≤ max_option_price → value_of c p ≤ max_value
option_value_bound c p h k = rw max_value_lem at (value_bound c p max_tick_value max_option_price h k)
