-- `date::digits` meets its contract.
use Rattle.contract.proofs.Steps.{fields}
use Rattle.contract.specs.Date.{date_at}
use Rattle.date.proofs.digits.Goals as goal

pub returns-in_default : goal.returns-in_default
unfolding date_at
returns-in_default c = search fields depth 12

pub returns-in_default-two_digits : goal.returns-in_default-two_digits
unfolding date_at
returns-in_default-two_digits c = search fields depth 12

pub returns-in_default-two_digits-2 : goal.returns-in_default-two_digits-2
unfolding date_at
returns-in_default-two_digits-2 c = search fields depth 12

pub returns : goal.returns
unfolding date_at
returns c = search fields depth 12
