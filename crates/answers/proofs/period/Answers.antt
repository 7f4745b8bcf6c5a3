-- `answers::period` meets its contract.
use borrow.Author.Rules.{rules}
use Rattle.book.specs.Answers.{period_told}
use Rattle.answers.proofs.period.Goals as goal

pub returns-in-Done : goal.returns-in-Done
unfolding period_told
returns-in-Done c = search rules

pub returns-in-Listed : goal.returns-in-Listed
unfolding period_told
returns-in-Listed c = search rules

pub returns-in-Traded : goal.returns-in-Traded
unfolding period_told
returns-in-Traded c = rw c.in-Traded.is

pub returns-in-Refused : goal.returns-in-Refused
unfolding period_told
returns-in-Refused c = search rules
