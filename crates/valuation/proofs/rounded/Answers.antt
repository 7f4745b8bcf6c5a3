-- `valuation::rounded` meets its contract.
use mathlib.Core.Path.{◌≡◌, sym}
use Prim.Native.Nat.{ℕ, ◌<◌, ◌%◌}
use native.Mathlib.Nat.{mod-lt}
use native.Mathlib.Omega.{arith}
use Rattle.value.proofs.Rounding.{nearest_zero, round_down, round_up}
use Rattle.valuation.proofs.rounded.Goals as goal

rest_small : (n d : ℕ) → (d ≡ 0 → ⊥) → n % d < d
rest_small n d ne = mod-lt n (omega arith)

pub returns-then-d-eq0 : goal.returns-then-d-eq0
returns-then-d-eq0 c = rw c.if-d-eq0.true (sym (nearest_zero c.args.n))

pub returns-then-rest-d : goal.returns-then-rest-d
returns-then-rest-d c =
    let n = c.args.n in
    let d = c.args.d in
    let h : n % d < d = rest_small n d c.if-d-eq0.false in round_down n d h (omega (arith, c.if-rest-d.true))

pub returns-else-rest-d : goal.returns-else-rest-d
returns-else-rest-d c =
    let n = c.args.n in
    let d = c.args.d in
    let h : n % d < d = rest_small n d c.if-d-eq0.false in round_up n d h (omega (arith, c.if-rest-d.false))
