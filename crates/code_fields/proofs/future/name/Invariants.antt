use Prim.Native.Nat.{◌≤◌}
use mathlib.Core.Path.{◌≡◌}
use lib.ListN.{length, drop}
use Rattle.contract.specs.Future.{name_at, name_on}
use Rattle.code_fields.proofs.future.name.Given as goal

abbrev pub invariant-loop-i : goal.invariant-loop-i
invariant-loop-i l = (l.i ≤ length l.s) × (name_at l.s ≡ name_on l.i (drop l.i l.s))
