-- `line_fields::account` meets its contract.
use native.Mathlib.Omega.{arith}
use Rattle.report.proofs.Fields.{◌then◌}
use Rattle.line_fields.proofs.account.Goals as goal

pub returns : goal.returns
returns c =
    record { put = c.byte-digits.ensures then c.index-comma.ensures.put then c.byte.ensures; upper_bound = omega arith }
