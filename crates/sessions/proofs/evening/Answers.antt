-- `sessions::evening` meets its contract: its tests are those of the verdict.
use Rattle.choice.proofs.Chain.{hit, past, tests}
use Rattle.book.specs.declared.state.Event.TheVariants.{Evening}
use Rattle.book.proofs.Decided.{by_refusal, by_allowance, mark_missing, none_missing}
use Rattle.sessions.proofs.evening.Goals as goal

pub returns-then-book-gt-FINAL_DAY : goal.returns-then-book-gt-FINAL_DAY
returns-then-book-gt-FINAL_DAY c = by_refusal _ Evening c.refused.ensures (search (hit, past, tests))

pub returns-in-Some : goal.returns-in-Some
returns-in-Some c = by_refusal _ Evening c.refused-in-Some.ensures (search (hit, past, tests, mark_missing))

pub returns : goal.returns
returns c = by_allowance _ Evening c.carried_out.ensures (past _ (search tests) (search none_missing))
