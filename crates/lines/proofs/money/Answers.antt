-- `lines::money` meets its contract.
use native.Mathlib.Omega.{arith}
use mir.Syntax.{w64}
use Rattle.integer.proofs.Machine.{any}
use Rattle.report.specs.Lines.{amount_text}
use Rattle.report.proofs.OneLine.{money_put, no_money_put}
use Rattle.report.proofs.Fields.{text_of}
use Rattle.magnitude.proofs.WithoutSign.{zero_test, other_test}
use Rattle.lines.proofs.money.Goals as goal

pub returns-then-amount-eq0 : goal.returns-then-amount-eq0
returns-then-amount-eq0 c =
    let z = c.args.amount in
    record { put = no_money_put _ _ _ _ z (zero_test z c.ranges.amount c.if-amount-eq0.true); upper_bound = omega arith }

pub returns : goal.returns
returns c =
    let z = c.args.amount in record {
      put = money_put _ _ z (other_test z c.if-amount-eq0.false) c.begin-comma.ensures.put c.account-roubles.ensures.put
          (text_of amount_text (any w64 c.ranges.amount).is c.amount-next.ensures.put) c.end.ensures;
      upper_bound = omega arith;
    }
