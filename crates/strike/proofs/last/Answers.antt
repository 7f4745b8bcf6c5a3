-- `strike::last` meets its contract.
use Rattle.contract.proofs.StrikeField as field
use Rattle.strike.proofs.last.Goals as goal

pub returns-in_default : goal.returns-in_default
returns-in_default c = search field.strike_none

pub returns-in_default-hundredths : goal.returns-in_default-hundredths
returns-in_default-hundredths c = search field.strike_broken

pub overflow_mul-result : goal.overflow_mul-result
overflow_mul-result c = search field.units_room

pub overflow_add-result : goal.overflow_add-result
overflow_add-result c = search field.strike_room

pub returns : goal.returns
returns c = search field.strike_found
