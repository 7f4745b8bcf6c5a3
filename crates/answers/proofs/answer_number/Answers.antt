-- `answers::answer_number` meets its contract.
use borrow.Author.Rules.{rules}
use Rattle.book.specs.Answers.{answer_number}
use Rattle.answers.proofs.answer_number.Goals as goal

pub returns-in-Done : goal.returns-in-Done
unfolding answer_number
returns-in-Done c = search rules

pub returns-in-Listed : goal.returns-in-Listed
unfolding answer_number
returns-in-Listed c = search rules

pub returns-in-Traded : goal.returns-in-Traded
unfolding answer_number
returns-in-Traded c = search rules

pub returns-in-Refused : goal.returns-in-Refused
unfolding answer_number
returns-in-Refused c = rw c.in-Refused.is c.refusal_number.ensures
