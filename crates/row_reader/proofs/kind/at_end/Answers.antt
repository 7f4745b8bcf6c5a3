-- `row_reader::kind::at_end` meets its contract.
use Rattle.choice.proofs.Chain.{hit, past, tests}
use Rattle.rows.specs.Row.{at_end}
use Rattle.row_reader.proofs.kind.at_end.Goals as goal

pub returns-then-at-s : goal.returns-then-at-s
unfolding at_end
returns-then-at-s c = search (hit, past, tests)

pub returns : goal.returns
unfolding at_end
returns c = search (hit, past, tests)
