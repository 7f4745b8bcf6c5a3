-- `date::month_days` meets its contract.
use Rattle.contract.proofs.DateField as field
use Rattle.date.proofs.month_days.Goals as goal

pub returns-then-long : goal.returns-then-long
returns-then-long c = search field.days

pub returns-then-month-eq2 : goal.returns-then-month-eq2
returns-then-month-eq2 c = search field.days

pub returns-in-1-to-7 : goal.returns-in-1-to-7
returns-in-1-to-7 c = search field.days

pub returns-in-8-to-12 : goal.returns-in-8-to-12
returns-in-8-to-12 c = search field.days

pub returns-in_default : goal.returns-in_default
returns-in_default c = search field.days

pub returns-in_default-2 : goal.returns-in_default-2
returns-in_default-2 c = search field.days
