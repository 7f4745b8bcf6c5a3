-- `full_day::full_day_trades` meets its contract.
use Rattle.std.proofs.Common.{◌≡◌, ℕ, ◌*◌, ◌%◌, ◌^◌, ap, ◌∙◌, arith}
use Rattle.terms.specs.Bounds.{series_room, blotter_room}
use Rattle.book.specs.declared.state.Book.{Book}
use Rattle.full_day.specs.Day as rule
use Rattle.full_day.proofs.Counting.{none, one_more}
use Rattle.full_day.proofs.full_day_trades.Goals.{After-after-book}
use Rattle.full_day.proofs.full_day_trades.Goals as goal

pub after-listed-requires : goal.after-listed-requires
after-listed-requires c = (c.empty.ensures.1, omega arith)

pub loop-init : goal.loop-init
loop-init c = (none _, omega arith)

pub after-book-requires : goal.after-book-requires
after-book-requires c = (c.after-listed.ensures.1, omega arith)

-- the trades of one day
traded : (c : After-after-book) → c.after-book.result ≡ rule.traded
traded c =
    c.after-book.ensures.0
    ∙ ap (λ (b : Book). rule.after b series_room blotter_room) (c.after-listed.ensures.0 ∙ ap (λ (b : Book). rule.after b 0 series_room) c.empty.ensures.0)

pub loop-preserved : goal.loop-preserved
loop-preserved c =
    let l = c.loop in
    (rw (traded (goal.at.loop-preserved c).After-after-book) (one_more l.counter (rule.traded).trades l.carried_out l.invariant.0), omega (arith))

pub returns : goal.returns
returns c =
    let l = c.loop in
    l.invariant.0 ∙ ap (λ (n : ℕ). n * (rule.traded).trades % 2 ^ 64) (omega (arith, l.invariant.1))
