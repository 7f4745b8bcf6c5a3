use mathlib.Core.Path.{◌≡◌}
use mathlib.Core.List.{List}
use Prim.Native.Nat.{ℕ, ◌*◌, ◌≤◌}
use lib.Dec.{eqb}
use lib.IntN.{ℤ, pos, nat_abs, ◌+ℤ◌}
use Rattle.choice.specs.Choice.{choose}
use Rattle.integer.specs.Sum.{sumℕ}
use Rattle.integer.specs.Table.{at}
use Rattle.places.specs.Places.{place_in}
use Rattle.position_limit.proofs.gross_after.Given as goal

-- a position of 32 bits, once a trade has changed it
abbrev pub most : ℕ
most = 2147484648

-- what section s has once the change has come
abbrev pub has : List ℤ → ℕ → ℕ → ℤ → ℕ → ℤ
has positions account section change s = at positions (place_in account s) +ℤ choose (eqb s section) change (pos 0)

abbrev pub invariant-loop-s : goal.invariant-loop-s
invariant-loop-s l =
    (l.gross ≡ sumℕ l.s (λ t. nat_abs (has l.positions l.account l.section (l.change) t))) × (l.gross ≤ l.s * most)
