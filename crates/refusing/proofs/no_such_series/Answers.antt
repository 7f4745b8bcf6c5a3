-- `refusing::no_such_series` meets its contract.
use mathlib.Core.Path.{ap, ◌∙◌}
use Rattle.choice.proofs.Chain.{hit, past, tests}
use Rattle.book.specs.Step as rule
use Rattle.refusing.proofs.no_such_series.Goals as goal

pub returns-then-book-gt-FINAL_DAY : goal.returns-then-book-gt-FINAL_DAY
returns-then-book-gt-FINAL_DAY c = c.refused.ensures ∙ ap (rule.refused _) (search (hit, past, tests))

pub returns : goal.returns
returns c = c.refused-2.ensures ∙ ap (rule.refused _) (search (hit, past, tests))
