-- `event_row::intraday_row` meets its contract: no futures arise, so its report is its answer's line and the money.
use mathlib.Core.Path.{refl, ap}
use native.Mathlib.Omega.{arith}
use Rattle.book.specs.declared.state.Event.TheVariants.{Intraday}
use Rattle.book.specs.declared.state.Step.{Step}
use Rattle.book.proofs.Keeps.{stays_good}
use Rattle.report.proofs.Fields.{◌then◌}
use Rattle.report.proofs.Quiet.{intraday_report}
use Rattle.event_row.proofs.intraday_row.Goals as goal

pub returns : goal.returns
returns c =
    let s = c.intraday-step in
    let p = c.money-replay.ensures in
    let a = c.answered-next.ensures in
    record {
      good = stays_good c.args.replay.now.book Intraday s.result c.requires.0 s.ensures;
      book = ap (λ (x : Step). x.book) s.ensures;
      number = refl;
      lines = rw (intraday_report c.args.replay.now.row c.args.replay.now.book, ← s.ensures) (a.put then p.put);
      room = omega (arith, a.upper_bound, p.upper_bound);
      intact = refl;
    }
