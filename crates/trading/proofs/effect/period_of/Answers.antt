-- `trading::effect::period_of` meets its contract.
use Rattle.book.proofs.Periods.{second_period, first_period}
use mathlib.Core.Path.{sym}
use Rattle.trading.proofs.effect.period_of.Goals as goal

pub returns-then-intraday_done : goal.returns-then-intraday_done
returns-then-intraday_done c = sym (second_period c.if-intraday_done.true)

pub returns-else-intraday_done : goal.returns-else-intraday_done
returns-else-intraday_done c = sym (first_period c.if-intraday_done.false)
