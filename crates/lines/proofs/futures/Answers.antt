-- `lines::futures` meets its contract.
use native.Mathlib.Omega.{arith}
use mir.Syntax.{w64}
use Rattle.integer.proofs.Machine.{any}
use Rattle.report.specs.Lines.{count_text}
use Rattle.report.proofs.OneLine.{futures_put, no_futures_put}
use Rattle.report.proofs.Fields.{text_of}
use Rattle.magnitude.proofs.WithoutSign.{zero_test, other_test}
use Rattle.lines.proofs.futures.Goals as goal

pub returns-then-arisen-eq0 : goal.returns-then-arisen-eq0
returns-then-arisen-eq0 c =
    let z = c.args.arisen in
    record { put = no_futures_put _ _ _ _ _ z (zero_test z c.ranges.arisen c.if-arisen-eq0.true); upper_bound = omega arith }

pub returns : goal.returns
returns c =
    let z = c.args.arisen in record {
      put = futures_put _ _ _ z (other_test z c.if-arisen-eq0.false) c.begin-series.ensures.put c.index-comma.ensures.put
          c.account-count.ensures.put (text_of count_text (any w64 c.ranges.arisen).is c.count-next.ensures.put) c.end.ensures;
      upper_bound = omega arith;
    }
