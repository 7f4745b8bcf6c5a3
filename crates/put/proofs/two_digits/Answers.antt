-- `put::two_digits` meets its contract.
use native.Mathlib.Omega.{arith}
use borrow.Author.Rules.{rules}
use Rattle.decimal.proofs.Pairs.{halves, both_halves}
use Rattle.put.proofs.two_digits.Goals as goal

pub overflow_add-pair : goal.overflow_add-pair
overflow_add-pair c =
    let made = c.before in
    let digits = halves made.digit_pairs-table.result made.args.v (search rules) (search rules) in
    omega (arith, digits.0, digits.1)

pub overflow_add-pair-2 : goal.overflow_add-pair-2
overflow_add-pair-2 c =
    let made = c.before.before.before.before.before in
    let digits = halves made.digit_pairs-table.result made.args.v (search rules) (search rules) in
    omega (arith, digits.0, digits.1)

pub returns : goal.returns
returns c = search both_halves
