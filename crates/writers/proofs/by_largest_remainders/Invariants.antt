use Prim.Native.Nat.{◌≤◌, ◌-◌}
use Rattle.places.specs.Places.{places, amount}
use Rattle.writers.proofs.Leftovers as law
use Rattle.writers.proofs.by_largest_remainders.Given as goal

abbrev pub invariant-loop-place : goal.invariant-loop-place
invariant-loop-place l = (l.place ≤ places) × law.Largest l.place (amount l.rest) l.largest

abbrev pub decreases-loop-place : goal.decreases-loop-place
decreases-loop-place l = places - l.place

abbrev pub invariant-loop : goal.invariant-loop
invariant-loop l = (l.counter ≤ l.left) × law.Served places (amount l.initial.rest) (amount l.initial.out) l.out l.rest l.counter

abbrev pub decreases-loop : goal.decreases-loop
decreases-loop l = l.left - l.counter
