-- `settling::expiry::closing` meets its contract.
use mathlib.Core.Path.{refl}
use Rattle.choice.proofs.Chain.{hit, past}
use Rattle.settling.proofs.expiry.closing.Goals as goal

pub returns-then-last : goal.returns-then-last
returns-then-last g c = hit _ c.if-last.true refl

pub returns-else-last : goal.returns-else-last
returns-else-last g c = past _ c.if-last.false refl
