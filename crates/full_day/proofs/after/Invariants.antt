use Rattle.std.proofs.Common.{◌≡◌, ◌≤◌}
use Rattle.book.specs.Good.{Good}
use Rattle.full_day.specs.Day as rule
use Rattle.full_day.proofs.after.Given as goal

abbrev pub invariant-loop-n : goal.invariant-loop-n
invariant-loop-n l = (l.book ≡ rule.after l.initial.book l.from l.n) × (Good l.book) × (l.n ≤ l.count)
