-- `scan::numeral` meets its contract.
use Rattle.std.proofs.Common.{rules, arith, le_antisymm, ◌∙◌}
use Rattle.decimal.proofs.Reading as step
use Rattle.scan.proofs.numeral.Goals as goal

pub returns-in_err-first : goal.returns-in_err-first
returns-in_err-first c = c.from_residual.ensures ∙ step.numeral_bad _ _ _ c.digit_at.ensures _ c.in_err-first.was

pub overflow_add-result : goal.overflow_add-result
overflow_add-result c = step.digit_room c.args.s.now _ _ _ c.digit_at.ensures c.in_ok-first.was (search rules)

pub returns-then-first-eq0 : goal.returns-then-first-eq0
returns-then-first-eq0 c = step.numeral_zero _ _ _ c.digit_at.ensures _ _ c.in_ok-first.was (search rules)

pub overflow_step-i : goal.overflow_step-i
overflow_step-i c = step.digit_room c.args.s.now _ _ _ c.digit_at.ensures c.in_ok-first.was (search rules)

pub loop-i-init : goal.loop-i-init
loop-i-init c =
    let first = step.numeral_first _ _ _ c.digit_at.ensures _ _ c.in_ok-first.was _ (search rules) (search rules) in
    (step.digit_next _ _ _ _ c.digit_at.ensures c.in_ok-first.was, omega arith, first)

pub returns-in_default : goal.returns-in_default
returns-in_default c = search step.digits_stop

pub loop-i-preserved : goal.loop-i-preserved
loop-i-preserved c = (omega arith, omega arith, search step.digits_step)

pub returns : goal.returns
returns c = search (step.digits_end, le_antisymm)
