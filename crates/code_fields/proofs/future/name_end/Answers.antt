-- `code_fields::future::name_end` meets its contract.
use Rattle.choice.specs.Choice.{choose}
use Rattle.choice.proofs.Chain.{tests}
use Rattle.contract.specs.Future.{name_end}
use Rattle.code_fields.proofs.future.name_end.Goals as goal

pub returns-then-i-eq0 : goal.returns-then-i-eq0
unfolding name_end choose
returns-then-i-eq0 c = search tests

pub returns-else-i-eq0 : goal.returns-else-i-eq0
unfolding name_end choose
returns-else-i-eq0 c = search tests
