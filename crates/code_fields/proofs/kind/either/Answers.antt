-- `code_fields::kind::either` meets its contract.
use Rattle.choice.specs.Choice.{choose}
use Rattle.choice.proofs.Chain.{tests}
use Rattle.code_fields.proofs.kind.either.Goals as goal

pub returns-then-s-at-2-clause-within : goal.returns-then-s-at-2-clause-within
unfolding choose
returns-then-s-at-2-clause-within g c = search tests

pub returns-then-s-at-3-clause-within : goal.returns-then-s-at-3-clause-within
unfolding choose
returns-then-s-at-3-clause-within g c = search tests

pub returns-clause-within : goal.returns-clause-within
unfolding choose
returns-clause-within g c = search tests
