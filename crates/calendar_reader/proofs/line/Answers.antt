-- `calendar_reader::line` meets its contract.
use Rattle.calendar.specs.Text.{line_at}
use Rattle.calendar.proofs.Steps.{fields}
use Rattle.calendar_reader.proofs.line.Goals as goal

pub returns-in_default : goal.returns-in_default
unfolding line_at
returns-in_default c = search fields depth 12

pub returns-in_default-verdict : goal.returns-in_default-verdict
unfolding line_at
returns-in_default-verdict c = search fields depth 12

pub returns-in_default-line_end : goal.returns-in_default-line_end
unfolding line_at
returns-in_default-line_end c = search fields depth 12

pub returns : goal.returns
unfolding line_at
returns c = search fields depth 12
