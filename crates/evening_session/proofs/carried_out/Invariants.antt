use Rattle.series.specs.Changes.{settled}
use Rattle.series.specs.declared.state.Series.{Series}
use Rattle.book.specs.declared.state.Book.{Book}
use Rattle.session_margin.proofs.EachSeries.{Passed}
use Rattle.evening_session.proofs.carried_out.Given as goal

-- a series after the evening of a book's day
abbrev pub settled_on : Book → Series → Series
settled_on b s = settled s b.day

abbrev pub invariant-loop-i : goal.invariant-loop-i
invariant-loop-i l = Passed l.initial.book (settled_on l.initial.book) l.i l.book l.margin
