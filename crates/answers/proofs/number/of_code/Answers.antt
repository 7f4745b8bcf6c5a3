-- `answers::number::of_code` meets its contract.
use Rattle.contract.specs.Code.{number}
use borrow.Author.Rules.{rules}
use Rattle.answers.proofs.number.of_code.Goals as goal

pub returns-in-Layout : goal.returns-in-Layout
unfolding number
returns-in-Layout c = search rules

pub returns-in-NoDate : goal.returns-in-NoDate
unfolding number
returns-in-NoDate c = search rules

pub returns-in-StrikeText : goal.returns-in-StrikeText
unfolding number
returns-in-StrikeText c = search rules
