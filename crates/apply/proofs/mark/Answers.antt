-- `apply::mark` meets its contract.
use mathlib.Core.Path.{refl}
use Rattle.apply.proofs.mark.Goals as goal

pub returns-in-Marked : goal.returns-in-Marked
returns-in-Marked c = rw c.in-Marked.is refl
