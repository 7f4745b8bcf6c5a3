-- `position_limit::passes_limit` meets its contract.
use mathlib.Core.Path.{refl}
use mir.Syntax.{w64}
use Rattle.integer.proofs.Machine.{any}
use Rattle.series.specs.Conditions.{passes_limit}
use Rattle.position_limit.proofs.passes_limit.Goals as goal

pub returns : goal.returns
unfolding passes_limit
returns c = rw (c.gross_after.ensures, (any w64 c.ranges.change).is) refl
