-- `line_fields::index` meets its contract.
use native.Mathlib.Omega.{arith}
use borrow.Author.Rules.{rules}
use Rattle.report.proofs.Fields.{byte_length}
use Rattle.line_fields.proofs.index.Goals as goal

pub digits-requires : goal.digits-requires
digits-requires c = omega (arith, byte_length c.args.i (search rules))

pub returns : goal.returns
returns c =
    record { put = c.digits.ensures; upper_bound = omega (arith, byte_length c.args.i (search rules)) }
