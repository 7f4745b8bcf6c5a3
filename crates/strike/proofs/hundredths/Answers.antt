-- `strike::hundredths` meets its contract.
use Rattle.choice.specs.Choice.{choose}
use Rattle.choice.proofs.Chain.{tests}
use Rattle.contract.proofs.Steps.{fields}
use Rattle.contract.specs.Strike.{hundredths_at}
use Rattle.strike.proofs.hundredths.Goals as goal

pub returns-then-at-s : goal.returns-then-at-s
unfolding hundredths_at choose
returns-then-at-s c = search (fields, tests) depth 8

pub returns-in_default : goal.returns-in_default
unfolding hundredths_at choose
returns-in_default c = search (fields, tests) depth 8

pub returns : goal.returns
unfolding hundredths_at choose
returns c = search (fields, tests) depth 8
