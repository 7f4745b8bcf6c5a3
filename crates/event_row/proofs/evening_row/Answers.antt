-- `event_row::evening_row` meets its contract: the lines are those of the report.
use Rattle.std.proofs.Common.{refl, ap}
use Rattle.book.specs.declared.state.Event.TheVariants.{Evening}
use Rattle.book.specs.declared.state.Step.{Step}
use Rattle.book.proofs.Keeps.{stays_good}
use Rattle.event_row.proofs.evening_row.Goals as goal

pub returns : goal.returns
returns c =
    let s = c.evening-step in
    let p = c.report-replay.ensures in
    record {
      good = stays_good c.args.replay.now.book Evening s.result c.requires.0 s.ensures;
      book = ap (λ (x : Step). x.book) s.ensures;
      number = refl;
      lines = rw (← s.ensures) p.put;
      room = p.upper_bound;
      intact = refl;
    }
