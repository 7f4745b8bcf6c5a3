-- `event_row::quiet_row` meets its contract: the report of an event that is no session is its answer's line.
use mathlib.Core.Path.{refl, ap}
use native.Mathlib.Omega.{arith}
use Rattle.book.specs.declared.state.Step.{Step}
use Rattle.report.proofs.Quiet.{quiet_report}
use Rattle.event_row.proofs.quiet_row.Goals as goal

pub returns : goal.returns
returns c =
    let s = c.step-step.ensures in
    let p = c.answered-replay.ensures in
    record {
      good = s.1;
      book = ap (λ (x : Step). x.book) s.0;
      number = refl;
      lines = rw (quiet_report c.args.replay.now.row c.args.replay.now.book c.requires.0 c.args.event c.requires.2, ← s.0) p.put;
      room = omega (arith, p.upper_bound);
      intact = refl;
    }
