-- `apply::move_positions` meets its contract.
use Rattle.book.proofs.Effects.{fits_trade}
use Rattle.apply.proofs.move_positions.Goals as goal

pub trade-requires : goal.trade-requires
trade-requires c =
    (fits_trade (rw c.in-Traded.is at c.requires.0), c.requires.1)

pub returns-in-Traded : goal.returns-in-Traded
returns-in-Traded c = rw c.in-Traded.is c.trade.ensures
