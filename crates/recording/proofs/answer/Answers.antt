-- `recording::answer` meets its contract.
use mathlib.Core.Path.{refl}
use Rattle.recording.proofs.answer.Goals as goal

pub returns-in-Refused : goal.returns-in-Refused
returns-in-Refused c = rw c.in-Refused.is refl

pub returns-in-Traded : goal.returns-in-Traded
returns-in-Traded c = rw c.in-Traded.is refl
