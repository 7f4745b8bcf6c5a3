-- `trade_parties::parties` meets its contract: the tests are those of the rule, in its order.
use Rattle.choice.proofs.Chain.{hit, past, tests}
use Rattle.trade_parties.proofs.parties.Goals as goal

pub returns-then-deal-ge-ACCOUNTS : goal.returns-then-deal-ge-ACCOUNTS
returns-then-deal-ge-ACCOUNTS c = search (hit, past, tests) depth 28

pub returns-then-deal-ge-ACCOUNTS-2 : goal.returns-then-deal-ge-ACCOUNTS-2
returns-then-deal-ge-ACCOUNTS-2 c = search (hit, past, tests) depth 28

pub returns-then-deal : goal.returns-then-deal
returns-then-deal c = search (hit, past, tests) depth 28

pub returns-then-deal-2 : goal.returns-then-deal-2
returns-then-deal-2 c = search (hit, past, tests) depth 28

pub returns-then-deal-3 : goal.returns-then-deal-3
returns-then-deal-3 c = search (hit, past, tests) depth 28

pub returns : goal.returns
returns c = search (hit, past, tests) depth 28
