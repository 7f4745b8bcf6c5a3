-- `row_lines::report` meets its contract.
use native.Mathlib.Omega.{arith}
use Rattle.report.specs.Report.{report_of}
use Rattle.report.proofs.Fields.{◌then◌}
use Rattle.row_lines.proofs.report.Goals as goal

pub returns : goal.returns
unfolding report_of
returns c = record {
  put = c.answered-first.ensures.put then c.money-next.ensures.put then c.futures.ensures.put;
  upper_bound = omega arith;
}
