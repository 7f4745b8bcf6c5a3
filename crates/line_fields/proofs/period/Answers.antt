-- `line_fields::period` meets its contract.
use native.Mathlib.Omega.{arith}
use Rattle.report.specs.Lines.{period_text}
use Rattle.line_fields.proofs.period.Goals as goal

pub returns-in-Some : goal.returns-in-Some
unfolding period_text
returns-in-Some c =
    record { put = rw c.in-Some.is c.account.ensures.put; upper_bound = c.account.ensures.upper_bound }

pub returns-in-None : goal.returns-in-None
unfolding period_text
returns-in-None c =
    record { put = rw c.in-None.is c.bytes.ensures; upper_bound = omega arith }
