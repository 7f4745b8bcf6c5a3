use Rattle.std.proofs.Common.{length, ◌-◌}
use Rattle.book.specs.Good.{Good}
use Rattle.interest_examples.proofs.each_row.Given as goal

abbrev pub invariant-loop-end : goal.invariant-loop-end
invariant-loop-end g l = Good l.book

abbrev pub decreases-loop-end : goal.decreases-loop-end
decreases-loop-end g l = length l.input - l.from
