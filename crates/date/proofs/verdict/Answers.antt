-- `date::verdict` meets its contract.
use Rattle.contract.proofs.DateField.{date_accepted, date_refused}
use Rattle.date.proofs.verdict.Goals as goal

pub returns-then-dated : goal.returns-then-dated
returns-then-dated c = search (date_accepted, date_refused)

pub returns : goal.returns
returns c = search (date_accepted, date_refused)
