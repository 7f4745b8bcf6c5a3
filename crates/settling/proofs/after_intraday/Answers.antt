-- `settling::after_intraday` meets its contract.
use mathlib.Core.Path.{refl, ap}
use mathlib.Core.Bool.{not}
use borrow.Author.Tests.{lt-ltb, le-ltb}
use Rattle.choice.proofs.Chain.{hit, past}
use Rattle.settling.proofs.after_intraday.Goals as goal

pub returns-then-s-day : goal.returns-then-s-day
returns-then-s-day c = past _ (ap not (lt-ltb _ _ c.if-s-day.true)) refl

pub returns : goal.returns
returns c = hit _ (ap not (le-ltb _ _ c.if-s-day.false)) c.unmark.ensures
