-- `code_fields::future::leading` meets its contract.
use Rattle.contract.proofs.Steps.{fields}
use Rattle.contract.specs.Future.{future_at}
use Rattle.code_fields.proofs.future.leading.Goals as goal

pub returns-in_default : goal.returns-in_default
unfolding future_at
returns-in_default c = search fields depth 12

pub returns-in_default-expect : goal.returns-in_default-expect
unfolding future_at
returns-in_default-expect c = search fields depth 12

pub returns-in_default-month : goal.returns-in_default-month
unfolding future_at
returns-in_default-month c = search fields depth 12

pub returns-in_default-expect-2 : goal.returns-in_default-expect-2
unfolding future_at
returns-in_default-expect-2 c = search fields depth 12

pub returns : goal.returns
unfolding future_at
returns c = search fields depth 12
