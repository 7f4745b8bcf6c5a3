-- `code::write_verdict` meets its contract.
use Rattle.choice.specs.Choice.{choose}
use Rattle.choice.proofs.Chain.{tests}
use Rattle.contract.specs.Code.{write_verdict}
use Rattle.contract.proofs.Steps.{fields}
use Rattle.code.proofs.write_verdict.Goals as goal

pub returns-in_default : goal.returns-in_default
unfolding write_verdict choose
returns-in_default c = search (fields, tests)

pub returns-then-n-future : goal.returns-then-n-future
unfolding write_verdict choose
returns-then-n-future c = search (fields, tests)

pub returns : goal.returns
unfolding write_verdict choose
returns c = search (fields, tests)
