-- `strike::verdict` meets its contract.
use Rattle.choice.specs.Choice.{choose}
use Rattle.choice.proofs.Chain.{tests}
use Rattle.contract.specs.Strike.{strike_verdict}
use Rattle.strike.proofs.verdict.Goals as goal

pub returns-in-1-to-10000000 : goal.returns-in-1-to-10000000
unfolding strike_verdict choose
returns-in-1-to-10000000 c = search tests

pub returns-in_default : goal.returns-in_default
unfolding strike_verdict choose
returns-in_default c = search tests

pub returns-in_default-2 : goal.returns-in_default-2
unfolding strike_verdict choose
returns-in_default-2 c = search tests
