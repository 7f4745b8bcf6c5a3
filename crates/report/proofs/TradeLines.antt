-- The line of a trade that is carried out has its record's period in the account's column; every other answer's line has nothing there.
use Rattle.std.specs.Prelude.{Option, None}
use mathlib.Core.Path.{◌≡◌, refl, sym, ap, ◌∙◌}
use mathlib.Core.List.{[]}
use Prim.Native.Nat.{ℕ}
use lib.Dec.{T}
use Rattle.decimal.specs.Text.{decimal}
use Rattle.margin.specs.declared.trade.Trade as trade_type
use Rattle.series.specs.declared.event.Deal.{Deal}
use Rattle.book.specs.Answers.{answer_number, was_carried_out, named, period_told}
use Rattle.book.specs.Good.{Good}
use Rattle.book.specs.State.{trade_at}
use Rattle.book.specs.Step.{step_of}
use Rattle.book.specs.declared.state.Answer.{Answer}
use Rattle.book.specs.declared.state.Book.{Book}
use Rattle.book.specs.declared.state.Event.TheVariants.{Trade}
use Rattle.book.proofs.Periods.{trade_joined}
use Rattle.report.specs.Lines.{line, kind_a, series_text, period_text}
use Rattle.report.specs.Report.{answer_line, answer_of, report_of, is_session}
use Rattle.report.proofs.Quiet.{quiet_report}

pub trade_line : (row : ℕ) (b : Book) → Good b → (d : Deal) → T (was_carried_out (step_of b (Trade d)).answer)
    → report_of row b.series (step_of b (Trade d)) ≡ line row kind_a [] (decimal (trade_at (step_of b (Trade d)).book b.trades).period) (decimal 0)
unfolding is_session answer_line series_text period_text answer_number named period_told
trade_line row b g d t =
    let joined = trade_joined b g d t in
    quiet_report row b g (Trade d) refl
    ∙ ap (answer_of row) joined.answer
    ∙ ap (λ (entry : trade_type.Trade). line row kind_a [] (decimal entry.period) (decimal 0)) (sym joined.entry)

pub no_period_line : (row : ℕ) (answer : Answer) → period_told answer ≡ None
    → answer_of row answer ≡ line row kind_a (series_text (named answer)) [] (decimal (answer_number answer))
unfolding answer_line period_text
no_period_line row answer e = ap (λ (told : Option ℕ). answer_line row (named answer) told (answer_number answer)) e
