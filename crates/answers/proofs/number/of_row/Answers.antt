-- `answers::number::of_row` meets its contract.
use Rattle.rows.specs.Row.{number}
use borrow.Author.Rules.{rules}
use Rattle.answers.proofs.number.of_row.Goals as goal

pub returns-in-Row : goal.returns-in-Row
unfolding number
returns-in-Row c = search rules

pub returns-in-Code : goal.returns-in-Code
unfolding number
returns-in-Code c = rw c.in-Code.is c.of_code.ensures

pub returns-in-NoTradingDate : goal.returns-in-NoTradingDate
unfolding number
returns-in-NoTradingDate c = search rules
