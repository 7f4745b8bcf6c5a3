-- `intraday_session::carried_out` meets its contract: the series are passed one by one, and what is paid for them is added up.
use mathlib.Core.Path.{◌≡◌, refl, ap, ◌∙◌}
use mathlib.Core.Bool.{true}
use mathlib.Core.List.{List}
use Prim.Native.Nat.{ℕ, ◌<◌}
use native.Mathlib.Omega.{arith}
use lib.IntN.{◌+ℤ◌}
use lib.ListN.{get_or}
use Rattle.integer.proofs.Bounds.{bounded_table, bounded_le, within_le}
use Rattle.integer.specs.Table.{at, table}
use Rattle.margin.specs.BySeries.{by_series}
use Rattle.margin.specs.Margin.{trades_cost}
use Rattle.terms.specs.Bounds.{accounts, series_room}
use Rattle.series.specs.Changes.{unmarked}
use Rattle.book.specs.Sessions.{changed, intraday_money_in, intraday_money, paid_into}
use Rattle.book.specs.State.{with_all_series, with_intraday, with_cash}
use Rattle.book.specs.declared.state.Answer.TheVariants.{Done}
use Rattle.book.specs.declared.state.Book.{Book}
use Rattle.book.proofs.Money.{intraday_within, cash_bounded}
use Rattle.book.proofs.SessionMoney.{paid_for, unmarked_limited, intraday_is, intraday_bounded, intraday_in_all, paid_into_lem}
use Rattle.book.proofs.Trades.{trades_within, coefficients_within}
use Rattle.session_margin.proofs.EachSeries.{passed_none, passed_room, passed_here, passed_costs, passed_left, passed_next, passed_series, passed_margin}
use Rattle.intraday_session.proofs.carried_out.Goals.{After-in_all-money, After-loop-i, In-loop-i}
use Rattle.intraday_session.proofs.carried_out.Goals as goal

room : (c : In-loop-i) → c.loop-i.i < series_room
room c = passed_room c.args.book c.requires unmarked c.loop-i-test.true

-- ---- once all series are passed
module _ (c : After-loop-i) where
  margin : c.loop-i.margin ≡ by_series (paid_for c.args.book (intraday_money_in c.args.book))
  margin =
      passed_margin c.args.book c.requires unmarked c.loop-i.invariant (omega arith)
      ∙ intraday_is c.args.book c.requires (changed c.args.book unmarked) refl

  series : c.loop-i.book ≡ with_all_series c.args.book (changed c.args.book unmarked)
  series = passed_series c.args.book c.requires unmarked c.loop-i.invariant (omega arith)

pub traded-margin-requires : goal.traded-margin-requires
traded-margin-requires c =
    let b = c.args.book in
    let g = c.requires in
    (g.trades, trades_within b g, rw c.coefficients.ensures (coefficients_within b g))

pub loop-i-init : goal.loop-i-init
loop-i-init c =
    let b = c.args.book in
    passed_none b c.requires unmarked _
    (c.traded-margin.ensures ∙ ap (λ (l : List ℕ). by_series (λ i a. trades_cost b.blotter b.trades i (get_or l i 0) a)) c.coefficients.ensures)

pub offset_bounds-book-i : goal.offset_bounds-book-i
offset_bounds-book-i c = omega (arith, room c)

pub bounds-book-i : goal.bounds-book-i
bounds-book-i c = room c

pub revalue_series-requires : goal.revalue_series-requires
revalue_series-requires c =
    let b = c.args.book in
    let g = c.requires in
    let l = (goal.at.revalue_series-requires c).In-loop-i in
    let i = c.loop-i.i in
    let h = c.loop-i.invariant in
    let left = passed_left b g unmarked h c.loop-i-test.true _ c.after_intraday-next.ensures in (
      passed_costs b g unmarked h c.loop-i-test.true,
      rw (passed_here b g unmarked h c.loop-i-test.true) (g.series i (room l)),
      rw left (unmarked_limited b g _ refl i (room l)),
    )

pub offset_bounds-book-i-in-loop-i : goal.offset_bounds-book-i-in-loop-i
offset_bounds-book-i-in-loop-i c = omega (arith, room (goal.at.offset_bounds-book-i-in-loop-i c).In-loop-i)

pub bounds-book-i-in-loop-i : goal.bounds-book-i-in-loop-i
bounds-book-i-in-loop-i c = room (goal.at.bounds-book-i-in-loop-i c).In-loop-i

pub loop-i-preserved : goal.loop-i-preserved
loop-i-preserved c = passed_next c.args.book c.requires unmarked c.loop-i.invariant c.loop-i-test.true _ c.after_intraday-next.ensures _ c.revalue_series.ensures

pub in_all-money-requires : goal.in_all-money-requires
in_all-money-requires c =
    let e = (goal.at.in_all-money-requires c).After-loop-i in
    rw (margin e) (bounded_le (intraday_bounded c.args.book c.requires) (omega arith))

money : (c : After-in_all-money) → c.in_all-money.result ≡ table accounts (intraday_money c.args.book)
money c = c.in_all-money.ensures ∙ intraday_in_all c.args.book c.requires _ (margin c.before.before)

pub pay-book-requires : goal.pay-book-requires
pay-book-requires c =
    let e = (goal.at.pay-book-requires c).After-loop-i in
    let m = (goal.at.pay-book-requires c).After-in_all-money in
    let b = c.args.book in
    let g = c.requires in (
      rw (series e) (cash_bounded b g),
      rw (money m) (bounded_table accounts (intraday_money b) (λ a _. within_le (intraday_within b g a) (omega arith))),
    )

pub returns : goal.returns
returns c =
    let e = (goal.at.returns c).After-loop-i in
    let m = (goal.at.returns c).After-in_all-money in
    let b = c.args.book in
    let cash : c.pay-book.result ≡ paid_into b.cash (intraday_money b) =
    c.pay-book.ensures ∙ ap (λ (k : Book). table accounts (λ a. at k.cash a +ℤ at c.in_all-money.result a)) (series e) ∙ paid_into_lem b.cash (intraday_money b) _ (money m) in
    λ i. record { answer = Done; money = money m i; book = with_cash (with_intraday (series e i) true (margin e i)) (cash i) }
