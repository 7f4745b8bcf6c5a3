-- `lines::answer` meets its contract.
use native.Mathlib.Omega.{arith}
use Rattle.report.proofs.OneLine.{answer_put}
use Rattle.lines.proofs.answer.Goals as goal

pub returns : goal.returns
returns c = record {
  put = answer_put _ _ _ _ c.begin-series.ensures.put c.series-commas.ensures.put c.period-digits.ensures.put c.number-next.ensures.put
      c.end.ensures;
  upper_bound = omega arith;
}
