-- `apply::interest` meets its contract.
use Rattle.book.proofs.Effects.{fits_trade}
use Rattle.apply.proofs.interest.Goals as goal

pub after_trade-requires : goal.after_trade-requires
after_trade-requires c =
    (fits_trade (rw c.in-Traded.is at c.requires.0), c.requires.1, c.requires.2)

pub returns-in-Traded : goal.returns-in-Traded
returns-in-Traded c = rw c.in-Traded.is c.after_trade.ensures
