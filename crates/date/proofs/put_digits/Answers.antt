-- `date::put_digits` meets its contract.
use Rattle.decimal.proofs.Putting.{puts}
use Rattle.date.proofs.put_digits.Goals as goal

pub returns : goal.returns
returns c = search puts
