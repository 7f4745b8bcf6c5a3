-- `line_fields::number` meets its contract.
use native.Mathlib.Omega.{arith}
use borrow.Author.Rules.{rules}
use Rattle.report.proofs.Fields.{row_length}
use Rattle.line_fields.proofs.number.Goals as goal

pub digits-requires : goal.digits-requires
digits-requires c = omega (arith, row_length c.args.n (search rules))

pub returns : goal.returns
returns c =
    record { put = c.digits.ensures; upper_bound = omega (arith, row_length c.args.n (search rules)) }
