-- `mark_verdict::mark_verdict` meets its contract: the tests are those of the rule, in its order.
use mathlib.Core.Path.{refl}
use borrow.Author.Tests.{le-ltb, lt-leb}
use Rattle.choice.proofs.Chain.{hit, past, tests}
use Rattle.mark_verdict.proofs.mark_verdict.Goals as goal

pub returns-then-today-gt-FINAL_DAY : goal.returns-then-today-gt-FINAL_DAY
returns-then-today-gt-FINAL_DAY c = search (hit, past, tests) depth 28

pub returns-then-today-quote : goal.returns-then-today-quote
returns-then-today-quote c = search (hit, past, tests) depth 28

pub returns-then-listing-today : goal.returns-then-listing-today
returns-then-listing-today c = search (hit, past, tests) depth 28

pub returns-then-quote-gt-MAX_OPTION_PRICE : goal.returns-then-quote-gt-MAX_OPTION_PRICE
returns-then-quote-gt-MAX_OPTION_PRICE c = search (hit, past, tests) depth 28

pub returns-then-quote-gt-MAX_FUTURES_PRICE : goal.returns-then-quote-gt-MAX_FUTURES_PRICE
returns-then-quote-gt-MAX_FUTURES_PRICE c = search (hit, past, tests) depth 28

pub returns-then-quote-lt1 : goal.returns-then-quote-lt1
returns-then-quote-lt1 c = search (hit, past, tests) depth 28

pub returns-then-quote-gt-MAX_TICK_VALUE : goal.returns-then-quote-gt-MAX_TICK_VALUE
returns-then-quote-gt-MAX_TICK_VALUE c = search (hit, past, tests) depth 28

pub returns-then-c-lt1 : goal.returns-then-c-lt1
returns-then-c-lt1 c = rw (← c.coefficient-c.ensures) (search (hit, past, tests) depth 28)

pub returns-then-c-gt-MAX_TICK_VALUE : goal.returns-then-c-gt-MAX_TICK_VALUE
returns-then-c-gt-MAX_TICK_VALUE c = rw (← c.coefficient-c.ensures) (search (hit, past, tests) depth 28)

pub returns : goal.returns
returns c =
    rw (← c.coefficient-c.ensures)
    (past _ (le-ltb _ _ c.if-today-gt-FINAL_DAY.false)
    (past _ (lt-leb _ _ c.if-today-quote.false)
    (past _ (le-ltb _ _ c.if-listing-today.false)
    (past _ (le-ltb _ _ c.if-quote-gt-MAX_OPTION_PRICE.false)
    (past _ (le-ltb _ _ c.if-quote-gt-MAX_FUTURES_PRICE.false)
    (past _ (le-ltb _ _ c.if-quote-lt1.false)
    (past _ (le-ltb _ _ c.if-quote-gt-MAX_TICK_VALUE.false)
    (past _ (le-ltb _ _ c.if-c-lt1.false)
    (past _ (le-ltb _ _ c.if-c-gt-MAX_TICK_VALUE.false) refl)))))))))
