-- `strike::fraction` meets its contract.
use Rattle.std.proofs.Common.{rules, arith}
use Rattle.choice.specs.Choice.{choose}
use Rattle.choice.proofs.Chain.{tests}
use Rattle.decimal.proofs.Digits.{is_digit, is_none}
use Rattle.decimal.proofs.Reading.{digit_room}
use Rattle.contract.specs.Strike.{fraction_at}
use Rattle.strike.proofs.fraction.Goals as goal

pub returns-in_default : goal.returns-in_default
unfolding fraction_at choose
returns-in_default c =
    let none = is_none _ _ c.digit_at.ensures c.in_default.is in
    search (tests, none)

pub overflow_add-i : goal.overflow_add-i
overflow_add-i c = digit_room c.args.s.now _ _ _ c.digit_at.ensures c.in-Some.is (search rules)

pub returns-then-tens-eq0 : goal.returns-then-tens-eq0
unfolding fraction_at choose
returns-then-tens-eq0 c =
    let tens = is_digit _ _ c.digit_at.ensures _ c.in-Some.is in
    rw (← tens.0) (search (tests, tens.1))

pub overflow_mul-result : goal.overflow_mul-result
overflow_mul-result c =
    let tens = is_digit _ _ c.digit_at.ensures _ c.in-Some.is in
    omega (arith, tens.1)

pub returns-then-i-s : goal.returns-then-i-s
unfolding fraction_at choose
returns-then-i-s c =
    let tens = is_digit _ _ c.digit_at.ensures _ c.in-Some.is in
    rw (← tens.0) (search (tests, tens.1))

pub returns-in_default-digit_at : goal.returns-in_default-digit_at
unfolding fraction_at choose
returns-in_default-digit_at c =
    let tens = is_digit _ _ c.digit_at.ensures _ c.in-Some.is in
    let none = is_none _ _ c.digit_at-2.ensures c.in_default-digit_at.is in
    rw (← tens.0) (search (tests, tens.1, none))

pub returns-then-ones-eq0 : goal.returns-then-ones-eq0
unfolding fraction_at choose
returns-then-ones-eq0 c =
    let tens = is_digit _ _ c.digit_at.ensures _ c.in-Some.is in
    let ones = is_digit _ _ c.digit_at-2.ensures _ c.in-Some-digit_at.is in
    rw (← tens.0, ← ones.0) (search (tests, tens.1, ones.1))

pub overflow_add-i-2 : goal.overflow_add-i-2
overflow_add-i-2 c = digit_room c.args.s.now _ _ _ c.digit_at-2.ensures c.in-Some-digit_at.is (search rules)

pub overflow_mul-result-then-i-s-2 : goal.overflow_mul-result-then-i-s-2
overflow_mul-result-then-i-s-2 c =
    let tens = is_digit _ _ c.digit_at.ensures _ c.in-Some.is in
    omega (arith, tens.1)

pub overflow_add-result : goal.overflow_add-result
overflow_add-result c =
    let tens = is_digit _ _ c.digit_at.ensures _ c.in-Some.is in
    let ones = is_digit _ _ c.digit_at-2.ensures _ c.in-Some-digit_at.is in
    omega (arith, tens.1, ones.1)

pub returns-then-i-s-2 : goal.returns-then-i-s-2
unfolding fraction_at choose
returns-then-i-s-2 c =
    let tens = is_digit _ _ c.digit_at.ensures _ c.in-Some.is in
    let ones = is_digit _ _ c.digit_at-2.ensures _ c.in-Some-digit_at.is in
    rw (← tens.0, ← ones.0) (search (tests, tens.1, ones.1))

pub returns : goal.returns
unfolding fraction_at choose
returns c =
    let tens = is_digit _ _ c.digit_at.ensures _ c.in-Some.is in
    let ones = is_digit _ _ c.digit_at-2.ensures _ c.in-Some-digit_at.is in
    rw (← tens.0, ← ones.0) (search (tests, tens.1, ones.1))
