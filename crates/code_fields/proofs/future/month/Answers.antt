-- `code_fields::future::month` meets its contract.
use Rattle.contract.proofs.FutureField as field
use Rattle.code_fields.proofs.future.month.Goals as goal

pub returns-in_default : goal.returns-in_default
returns-in_default c = search field.month_none

pub returns-in-1-to-12 : goal.returns-in-1-to-12
returns-in-1-to-12 c = search field.month_in

pub returns-in_default-value : goal.returns-in_default-value
returns-in_default-value c = search (field.month_zero, field.month_past)

pub returns-in_default-value-2 : goal.returns-in_default-value-2
returns-in_default-value-2 c = search (field.month_zero, field.month_past)
