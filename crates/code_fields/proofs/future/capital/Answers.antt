-- `code_fields::future::capital` meets its contract.
use Rattle.choice.specs.Choice.{choose}
use Rattle.choice.proofs.Chain.{tests}
use Rattle.contract.specs.Future.{capital_of}
use Rattle.code_fields.proofs.future.capital.Goals as goal

pub returns-in-65-to-90 : goal.returns-in-65-to-90
unfolding capital_of choose
returns-in-65-to-90 c = search tests

pub returns-in_default : goal.returns-in_default
unfolding capital_of choose
returns-in_default c = search tests

pub returns-in_default-2 : goal.returns-in_default-2
unfolding capital_of choose
returns-in_default-2 c = search tests
