-- `code::terms_verdict` meets its contract.
use Rattle.choice.specs.Choice.{choose}
use Rattle.choice.proofs.Chain.{tests}
use Rattle.contract.specs.Code.{terms_verdict}
use Rattle.code.proofs.terms_verdict.Goals as goal

pub returns-then-date-ge-PAIRS : goal.returns-then-date-ge-PAIRS
unfolding terms_verdict choose
returns-then-date-ge-PAIRS c = search tests

pub returns-then-date-ge-PAIRS-2 : goal.returns-then-date-ge-PAIRS-2
unfolding terms_verdict choose
returns-then-date-ge-PAIRS-2 c = search tests

pub returns-then-date-ge-PAIRS-3 : goal.returns-then-date-ge-PAIRS-3
unfolding terms_verdict choose
returns-then-date-ge-PAIRS-3 c = search tests

pub returns : goal.returns
unfolding terms_verdict choose
returns c = search tests
