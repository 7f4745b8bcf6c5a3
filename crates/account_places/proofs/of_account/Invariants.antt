use mathlib.Core.Path.{◌≡◌}
use Prim.Native.Nat.{ℕ, ◌*◌, ◌≤◌}
use Rattle.integer.specs.Bounds.{Within}
use Rattle.integer.specs.Sum.{sum_to}
use Rattle.integer.specs.Table.{at}
use Rattle.places.specs.Places.{sections, place_in}
use Rattle.account_places.proofs.of_account.Given as goal

-- a number of 32 bits is at most so far from 0
abbrev pub most : ℕ
most = 2147483648

abbrev pub invariant-loop-section : goal.invariant-loop-section
invariant-loop-section l =
    (l.section ≤ sections) × (l.sum ≡ sum_to l.section (λ s. at l.numbers (place_in l.account s))) × Within (l.section * most) (sum_to l.section (λ s. at l.numbers (place_in l.account s)))
