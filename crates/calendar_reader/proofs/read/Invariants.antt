use Prim.Native.Nat.{◌-◌}
use Rattle.calendar.specs.Days.{max_dates}
use Rattle.calendar.proofs.Steps.{Reached}
use Rattle.calendar_reader.proofs.read.Given as goal

abbrev pub invariant-loop-at : goal.invariant-loop-at
invariant-loop-at l = Reached l.text l.numbers l.count l.before l.at

abbrev pub decreases-loop-at : goal.decreases-loop-at
decreases-loop-at l = max_dates - l.count
