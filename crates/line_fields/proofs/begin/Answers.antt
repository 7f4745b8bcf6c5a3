-- `line_fields::begin` meets its contract.
use native.Mathlib.Omega.{arith}
use Rattle.report.proofs.Fields.{◌then◌}
use Rattle.line_fields.proofs.begin.Goals as goal

pub returns : goal.returns
returns c =
    let row = c.number-comma.ensures in record {
      put = row.put then c.byte-letter.ensures then c.byte-next.ensures then c.byte.ensures;
      upper_bound = omega arith;
    }
