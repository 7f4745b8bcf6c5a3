-- `effect::series_of` meets its contract.
use mathlib.Core.Path.{sym, ap}
use Rattle.book.specs.Effects.{series_of}
use Rattle.effect.proofs.series_of.Goals as goal

pub returns-in-Trade : goal.returns-in-Trade
returns-in-Trade c = ap series_of (sym c.in-Trade.is)

pub returns-in-Mark : goal.returns-in-Mark
returns-in-Mark c = ap series_of (sym c.in-Mark.is)
