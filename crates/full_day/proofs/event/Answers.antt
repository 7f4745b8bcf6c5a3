-- `full_day::event` meets its contract.
use Rattle.std.proofs.Common.{◌∙◌}
use Rattle.choice.proofs.Chain.{hit, past, tests}
use Rattle.full_day.proofs.event.Goals as goal

pub returns-then-n-lt-TRADES : goal.returns-then-n-lt-TRADES
returns-then-n-lt-TRADES c = c.listing.ensures ∙ (search (hit, past, tests))

pub returns-then-n-lt-MARKS : goal.returns-then-n-lt-MARKS
returns-then-n-lt-MARKS c = c.trade.ensures ∙ (search (hit, past, tests))

pub returns : goal.returns
returns c = c.mark.ensures ∙ (search (hit, past, tests))
