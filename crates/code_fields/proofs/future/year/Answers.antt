-- `code_fields::future::year` meets its contract.
use Rattle.contract.proofs.Steps.{fields}
use Rattle.contract.specs.Future.{year_at}
use Rattle.code_fields.proofs.future.year.Goals as goal

pub returns-in_default : goal.returns-in_default
unfolding year_at
returns-in_default c = search fields

pub returns : goal.returns
unfolding year_at
returns c = search fields
