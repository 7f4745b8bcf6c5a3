use mathlib.Core.List.{List}
use mathlib.Core.Path.{◌≡◌}
use Prim.Native.Nat.{ℕ, ◌*◌, ◌≤◌}
use lib.ListN.{replicate}
use Rattle.integer.specs.Sum.{sumℕ}
use Rattle.integer.proofs.Table.{Updated}
use Rattle.places.specs.Places.{places, amount}
use Rattle.exercise.specs.Assignment.{whole_part, remainder}
use Rattle.writers.proofs.shares.Given as goal

-- before the first place
abbrev pub none : List ℕ
none = replicate places 0

abbrev pub invariant-loop-place : goal.invariant-loop-place
invariant-loop-place l =
    (l.place ≤ places) ×
    Updated places l.place l.whole none 0 (whole_part l.exercised l.interest (amount l.shorts)) ×
    Updated places l.place l.remainder none 0 (remainder l.exercised l.interest (amount l.shorts)) ×
    (l.given ≡ sumℕ l.place (whole_part l.exercised l.interest (amount l.shorts))) ×
    (l.given ≤ l.place * 4294967295)
