-- `date::in_calendar` meets its contract.
use Rattle.contract.proofs.DateField.{day_zero, day_within}
use Rattle.date.proofs.in_calendar.Goals as goal

pub returns-then-date-eq0 : goal.returns-then-date-eq0
returns-then-date-eq0 c = search day_zero

pub returns : goal.returns
returns c = search day_within
