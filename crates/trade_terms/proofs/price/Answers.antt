-- `trade_terms::price` meets its contract: the tests are those of the rule, in its order.
use Rattle.choice.proofs.Chain.{hit, past, tests}
use Rattle.trade_terms.proofs.price.Goals as goal

pub returns-then-deal-lt1 : goal.returns-then-deal-lt1
returns-then-deal-lt1 c = search (hit, past, tests) depth 28

pub returns-then-deal-gt-MAX_QUANTITY : goal.returns-then-deal-gt-MAX_QUANTITY
returns-then-deal-gt-MAX_QUANTITY c = search (hit, past, tests) depth 28

pub returns-then-deal-gt-MAX_OPTION_PRICE : goal.returns-then-deal-gt-MAX_OPTION_PRICE
returns-then-deal-gt-MAX_OPTION_PRICE c = search (hit, past, tests) depth 28

pub returns-then-deal-tick-gt0 : goal.returns-then-deal-tick-gt0
returns-then-deal-tick-gt0 c = search (hit, past, tests) depth 28

pub returns : goal.returns
returns c = search (hit, past, tests) depth 28
