-- `calendar_reader::line_end` meets its contract.
use Rattle.choice.proofs.Chain.{hit, past, tests}
use Rattle.calendar.specs.Text.{line_end}
use Rattle.calendar.proofs.Steps.{fields}
use Rattle.calendar_reader.proofs.line_end.Goals as goal

pub returns-then-at-text : goal.returns-then-at-text
unfolding line_end
returns-then-at-text c = search (hit, past, tests)

pub returns-in_default : goal.returns-in_default
unfolding line_end
returns-in_default c = search (fields, hit, past, tests) depth 12

pub returns : goal.returns
unfolding line_end
returns c = search (fields, hit, past, tests) depth 12
