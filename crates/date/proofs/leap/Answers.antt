-- `date::leap` meets its contract.
use Rattle.choice.specs.Choice.{choose}
use Rattle.choice.proofs.Chain.{tests}
use Rattle.contract.specs.Date.{leap_year}
use Rattle.contract.proofs.DateField.{leap_of_century}
use Rattle.date.proofs.leap.Goals as goal

pub returns-then-year-eq0 : goal.returns-then-year-eq0
unfolding leap_year choose
returns-then-year-eq0 c = rw leap_of_century (search tests)

pub returns-then-year-eq0-2 : goal.returns-then-year-eq0-2
unfolding leap_year choose
returns-then-year-eq0-2 c = rw leap_of_century (search tests)

pub returns : goal.returns
unfolding leap_year choose
returns c = rw leap_of_century (search tests)
