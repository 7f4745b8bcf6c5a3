use mathlib.Core.Path.{◌≡◌}
use Prim.Native.Nat.{◌-◌, ◌≤◌}
use Rattle.book.specs.Verdicts.{first_from}
use Rattle.missing_mark.proofs.first_unmarked.Given as goal

abbrev pub invariant-loop-i : goal.invariant-loop-i
invariant-loop-i l = (l.i ≤ l.book.listed) × (first_from l.book l.book.listed 0 ≡ first_from l.book (l.book.listed - l.i) l.i)

abbrev pub decreases-loop-i : goal.decreases-loop-i
decreases-loop-i l = l.book.listed - l.i
