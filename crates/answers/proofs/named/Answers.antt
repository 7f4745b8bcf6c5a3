-- `answers::named` meets its contract.
use borrow.Author.Rules.{rules}
use Rattle.book.specs.Answers.{named}
use Rattle.answers.proofs.named.Goals as goal

pub returns-in-Done : goal.returns-in-Done
unfolding named
returns-in-Done c = search rules

pub returns-in-Listed : goal.returns-in-Listed
unfolding named
returns-in-Listed c = rw c.in-Listed.is

pub returns-in-Traded : goal.returns-in-Traded
unfolding named
returns-in-Traded c = search rules

pub returns-in-Refused : goal.returns-in-Refused
unfolding named
returns-in-Refused c = rw c.in-Refused.is c.named_by.ensures
