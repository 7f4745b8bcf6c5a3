-- `scan::two_digits` meets its contract.
use Rattle.std.proofs.Common.{rules, arith, ◌∙◌}
use Rattle.decimal.proofs.Digits.{is_digit}
use Rattle.decimal.proofs.Reading as step
use Rattle.scan.proofs.two_digits.Goals as goal

pub returns-in_err-tens : goal.returns-in_err-tens
returns-in_err-tens c = c.from_residual.ensures ∙ step.two_first _ _ _ c.digit_at.ensures c.in_err-tens.was

pub overflow_add-at : goal.overflow_add-at
overflow_add-at c = step.digit_room c.args.s.now _ _ _ c.digit_at.ensures c.in_ok-tens.was (search rules)

pub returns-in_err-ones : goal.returns-in_err-ones
returns-in_err-ones c =
    c.from_residual-in_err-ones.ensures
    ∙ step.two_second _ _ _ c.digit_at.ensures _ c.in_ok-tens.was _ c.digit_at-2.ensures c.in_err-ones.was

pub overflow_mul-result : goal.overflow_mul-result
overflow_mul-result c =
    let tens = is_digit _ _ c.digit_at.ensures _ c.in_ok-tens.was in
    let ones = is_digit _ _ c.digit_at-2.ensures _ c.in_ok-ones.was in
    omega (arith, tens.1, ones.1)

pub overflow_add-result : goal.overflow_add-result
overflow_add-result c =
    let tens = is_digit _ _ c.digit_at.ensures _ c.in_ok-tens.was in
    let ones = is_digit _ _ c.digit_at-2.ensures _ c.in_ok-ones.was in
    omega (arith, tens.1, ones.1)

pub overflow_add-result-2 : goal.overflow_add-result-2
overflow_add-result-2 c =
    let room = step.second_digit_room c.args.s.now _ _ _ c.digit_at-2.ensures c.in_ok-ones.was (search rules) in
    omega (arith, room)

pub returns : goal.returns
returns c = step.two_both _ _ _ c.digit_at.ensures _ c.in_ok-tens.was _ c.digit_at-2.ensures _ c.in_ok-ones.was
