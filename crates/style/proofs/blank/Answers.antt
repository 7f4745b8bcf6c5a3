-- `style::blank` meets its contract.
use Rattle.contract.specs.Style.{style_at}
use Rattle.contract.proofs.Steps.{fields}
use Rattle.style.proofs.blank.Goals as goal

pub returns-in_default : goal.returns-in_default
unfolding style_at
returns-in_default c = search fields

pub returns-in-Some-expect : goal.returns-in-Some-expect
unfolding style_at
returns-in-Some-expect c = search fields

pub returns-in-None : goal.returns-in-None
unfolding style_at
returns-in-None c = search fields
