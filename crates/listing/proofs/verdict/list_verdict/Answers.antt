-- `listing::verdict::list_verdict` meets its contract: the tests are those of the rule, in its order.
use Rattle.choice.proofs.Chain.{hit, past, tests}
use Rattle.listing.proofs.verdict.list_verdict.Goals as goal

pub returns-then-today-gt-FINAL_DAY : goal.returns-then-today-gt-FINAL_DAY
returns-then-today-gt-FINAL_DAY c = search (hit, past, tests) depth 28

pub returns-then-new-lt1 : goal.returns-then-new-lt1
returns-then-new-lt1 c = search (hit, past, tests) depth 28

pub returns-then-new-gt-MAX_STRIKE : goal.returns-then-new-gt-MAX_STRIKE
returns-then-new-gt-MAX_STRIKE c = search (hit, past, tests) depth 28

pub returns-then-new-lt1-2 : goal.returns-then-new-lt1-2
returns-then-new-lt1-2 c = search (hit, past, tests) depth 28

pub returns-then-new-gt-MAX_TICK : goal.returns-then-new-gt-MAX_TICK
returns-then-new-gt-MAX_TICK c = search (hit, past, tests) depth 28

pub returns-then-new-today : goal.returns-then-new-today
returns-then-new-today c = search (hit, past, tests) depth 28

pub returns-then-new : goal.returns-then-new
returns-then-new c = search (hit, past, tests) depth 28

pub returns-then-today-ge-SERIES : goal.returns-then-today-ge-SERIES
returns-then-today-ge-SERIES c = search (hit, past, tests) depth 28

pub returns : goal.returns
returns c = search (hit, past, tests) depth 28
