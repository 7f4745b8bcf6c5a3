-- `recording::counted` meets its contract.
use mathlib.Core.Path.{refl}
use Rattle.recording.proofs.counted.Goals as goal

pub returns-in-Traded : goal.returns-in-Traded
returns-in-Traded c = rw c.in-Traded.is refl
