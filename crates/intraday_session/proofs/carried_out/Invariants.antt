use Rattle.series.specs.Changes.{unmarked}
use Rattle.session_margin.proofs.EachSeries.{Passed}
use Rattle.intraday_session.proofs.carried_out.Given as goal

abbrev pub invariant-loop-i : goal.invariant-loop-i
invariant-loop-i l = Passed l.initial.book unmarked l.i l.book l.margin
