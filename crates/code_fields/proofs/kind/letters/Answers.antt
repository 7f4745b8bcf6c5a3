-- `code_fields::kind::letters` meets its contract.
use Rattle.contract.proofs.Steps.{fields}
use Rattle.contract.specs.Kind.{kind_at}
use Rattle.code_fields.proofs.kind.letters.Goals as goal

pub returns-in_default : goal.returns-in_default
unfolding kind_at
returns-in_default c = search fields depth 12

pub returns-in_default-category : goal.returns-in_default-category
unfolding kind_at
returns-in_default-category c = search fields depth 12

pub returns : goal.returns
unfolding kind_at
returns c = search fields depth 12
