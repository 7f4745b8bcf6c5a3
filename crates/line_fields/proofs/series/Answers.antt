-- `line_fields::series` meets its contract.
use native.Mathlib.Omega.{arith}
use Rattle.report.specs.Lines.{series_text}
use Rattle.report.proofs.Fields.{nothing}
use Rattle.line_fields.proofs.series.Goals as goal

pub returns-in-Some : goal.returns-in-Some
unfolding series_text
returns-in-Some c =
    record { put = rw c.in-Some.is c.index.ensures.put; upper_bound = c.index.ensures.upper_bound }

pub returns-in-None : goal.returns-in-None
unfolding series_text
returns-in-None c = record { put = rw c.in-None.is (nothing _ _); upper_bound = omega arith }
