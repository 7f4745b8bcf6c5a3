-- `lines::no_calendar` meets its contract.
use native.Mathlib.Omega.{arith}
use Rattle.decimal.proofs.Putting.{then}
use Rattle.report.specs.Report.{no_calendar}
use Rattle.lines.proofs.no_calendar.Goals as goal

pub returns : goal.returns
unfolding no_calendar
returns c = record {
  put = then _ _ _ 0 _ _ _ _ c.header-next.ensures.put c.answer.ensures.put;
  upper_bound = omega arith;
}
