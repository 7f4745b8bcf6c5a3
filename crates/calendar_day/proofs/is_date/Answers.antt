-- `calendar_day::is_date` meets its contract.
use Rattle.choice.proofs.Chain.{hit, past, tests}
use Rattle.calendar.specs.Days.{same_date}
use Rattle.calendar_day.proofs.is_date.Goals as goal

pub returns-then-number-date : goal.returns-then-number-date
unfolding same_date
returns-then-number-date c = search (hit, past, tests)

pub returns-then-number-date-2 : goal.returns-then-number-date-2
unfolding same_date
returns-then-number-date-2 c = search (hit, past, tests)

pub returns : goal.returns
unfolding same_date
returns c = search (hit, past, tests)
