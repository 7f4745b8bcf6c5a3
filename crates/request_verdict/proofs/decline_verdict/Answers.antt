-- `request_verdict::decline_verdict` meets its contract: the tests are those of the rule, in its order.
use Rattle.choice.proofs.Chain.{hit, past, tests}
use Rattle.request_verdict.proofs.decline_verdict.Goals as goal

pub returns-then-today-gt-FINAL_DAY : goal.returns-then-today-gt-FINAL_DAY
returns-then-today-gt-FINAL_DAY c = search (hit, past, tests) depth 28

pub returns-then-today-waiver : goal.returns-then-today-waiver
returns-then-today-waiver c = search (hit, past, tests) depth 28

pub returns-then-listing-today : goal.returns-then-listing-today
returns-then-listing-today c = search (hit, past, tests) depth 28

pub returns-then-waiver-ge-ACCOUNTS : goal.returns-then-waiver-ge-ACCOUNTS
returns-then-waiver-ge-ACCOUNTS c = search (hit, past, tests) depth 28

pub returns-then-waiver : goal.returns-then-waiver
returns-then-waiver c = search (hit, past, tests) depth 28

pub returns-then-today-listing : goal.returns-then-today-listing
returns-then-today-listing c = search (hit, past, tests) depth 28

pub returns : goal.returns
returns c = search (hit, past, tests) depth 28
