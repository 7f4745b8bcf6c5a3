-- `sessions::intraday` meets its contract: its tests are those of the verdict.
use Rattle.choice.proofs.Chain.{hit, past, tests}
use Rattle.book.specs.declared.state.Event.TheVariants.{Intraday}
use Rattle.book.proofs.Decided.{by_refusal, by_allowance, mark_missing, none_missing}
use Rattle.sessions.proofs.intraday.Goals as goal

pub returns-then-book-gt-FINAL_DAY : goal.returns-then-book-gt-FINAL_DAY
returns-then-book-gt-FINAL_DAY c = by_refusal _ Intraday c.refused.ensures (search (hit, past, tests))

pub returns-then-book : goal.returns-then-book
returns-then-book c = by_refusal _ Intraday c.refused-then-book.ensures (search (hit, past, tests))

pub returns-in-Some : goal.returns-in-Some
returns-in-Some c = by_refusal _ Intraday c.refused-in-Some.ensures (search (hit, past, tests, mark_missing))

pub returns : goal.returns
returns c = by_allowance _ Intraday c.carried_out.ensures (past _ (search tests) (past _ (search tests) (none_missing c.first_unmarked.ensures c.in_default.is)))
