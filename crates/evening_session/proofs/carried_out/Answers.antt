-- `evening_session::carried_out` meets its contract: the series are passed one by one, and what is left to be paid for them is added up.
use mathlib.Core.Path.{◌≡◌, refl, ap, ◌∙◌}
use mathlib.Core.Bool.{false}
use mathlib.Core.List.{List}
use Prim.Native.Nat.{ℕ, ◌+◌, ◌<◌}
use native.Mathlib.Omega.{arith}
use lib.IntN.{ℤ, ◌+ℤ◌, ◌-ℤ◌}
use lib.ListN.{get_or}
use Rattle.integer.specs.Bounds.{Bounded}
use Rattle.integer.proofs.Bounds.{bounded_table, bounded_zeros}
use Rattle.integer.specs.Table.{at, table}
use Rattle.margin.specs.Bounds.{most_in_a_series}
use Rattle.margin.specs.BySeries.{cells, by_series}
use Rattle.margin.specs.Margin.{trades_cost}
use Rattle.places.specs.Places.{Limited}
use Rattle.terms.specs.Bounds.{accounts, series_room, max_position}
use Rattle.series.specs.Good.{GoodSeries}
use Rattle.book.specs.Sessions.{changed, evening_margin_in, evening_money, paid_into}
use Rattle.book.specs.State.{no_series, none_paid, with_day, with_all_series, with_blotter, with_intraday, with_cash}
use Rattle.book.specs.declared.state.Answer.TheVariants.{Done}
use Rattle.book.specs.declared.state.Book.{Book}
use Rattle.book.proofs.Money.{evening_within, cash_bounded}
use Rattle.book.proofs.SessionMoney.{paid_for, settled_limited, evening_is, evening_bounded, rest_bounded, evening_in_all, paid_into_lem}
use Rattle.book.proofs.Trades.{trades_within, coefficients_within}
use Rattle.session_margin.proofs.EachSeries.{passed_none, passed_room, passed_here, passed_costs, passed_left, passed_next, passed_series, passed_margin}
use Rattle.evening_session.proofs.carried_out.Goals.{After-in_all-money, After-less-rest, After-loop-i, In-loop-i}
use Rattle.evening_session.proofs.carried_out.Goals as goal
use Rattle.evening_session.proofs.carried_out.Invariants.{settled_on}

room : (c : In-loop-i) → c.loop-i.i < series_room
room c = passed_room c.args.book c.requires.0 (settled_on c.args.book) c.loop-i-test.true

-- ---- once all series are passed
module _ (c : After-loop-i) where
  margin : c.loop-i.margin ≡ by_series (paid_for c.args.book (evening_margin_in c.args.book))
  margin =
      passed_margin c.args.book c.requires.0 (settled_on c.args.book) c.loop-i.invariant (omega arith)
      ∙ evening_is c.args.book c.requires.0 (changed c.args.book (settled_on c.args.book)) refl

  series : c.loop-i.book ≡ with_all_series c.args.book (changed c.args.book (settled_on c.args.book))
  series = passed_series c.args.book c.requires.0 (settled_on c.args.book) c.loop-i.invariant (omega arith)

pub traded-margin-requires : goal.traded-margin-requires
traded-margin-requires c =
    let b = c.args.book in
    let g = c.requires.0 in
    (g.trades, trades_within b g, rw c.coefficients.ensures (coefficients_within b g))

pub loop-i-init : goal.loop-i-init
loop-i-init c =
    let b = c.args.book in
    passed_none b c.requires.0 (settled_on b) _
    (c.traded-margin.ensures ∙ ap (λ (l : List ℕ). by_series (λ i a. trades_cost b.blotter b.trades i (get_or l i 0) a)) c.coefficients.ensures)

pub offset_bounds-book-i : goal.offset_bounds-book-i
offset_bounds-book-i c = omega (arith, room c)

pub bounds-book-i : goal.bounds-book-i
bounds-book-i c = room c

pub after_evening-next-requires : goal.after_evening-next-requires
after_evening-next-requires c =
    let b = c.args.book in
    let l = (goal.at.after_evening-next-requires c).In-loop-i in
    (rw (passed_here b c.requires.0 (settled_on b) c.loop-i.invariant c.loop-i-test.true) (c.requires.0.series c.loop-i.i (room l)), c.requires.1)

pub revalue_series-requires : goal.revalue_series-requires
revalue_series-requires c =
    let b = c.args.book in
    let g = c.requires.0 in
    let l = (goal.at.revalue_series-requires c).In-loop-i in
    let i = c.loop-i.i in
    let h = c.loop-i.invariant in
    let good : GoodSeries b.day (get_or c.loop-i.book.series i no_series) = rw (passed_here b g (settled_on b) h c.loop-i-test.true) (g.series i (room l)) in
    let left = passed_left b g (settled_on b) h c.loop-i-test.true _ c.after_evening-next.ensures in
    let limited : Limited max_position c.after_evening-next.result.positions = rw left (settled_limited b g _ refl i (room l)) in
    (passed_costs b g (settled_on b) h c.loop-i-test.true, good, search (limited, good.limited))

pub offset_bounds-book-i-in-loop-i : goal.offset_bounds-book-i-in-loop-i
offset_bounds-book-i-in-loop-i c = omega (arith, room (goal.at.offset_bounds-book-i-in-loop-i c).In-loop-i)

pub bounds-book-i-in-loop-i : goal.bounds-book-i-in-loop-i
bounds-book-i-in-loop-i c = room (goal.at.bounds-book-i-in-loop-i c).In-loop-i

pub loop-i-preserved : goal.loop-i-preserved
loop-i-preserved c =
    passed_next c.args.book c.requires.0 (settled_on c.args.book) c.loop-i.invariant c.loop-i-test.true _ c.after_evening-next.ensures _ c.revalue_series.ensures

pub less-rest-requires : goal.less-rest-requires
less-rest-requires c =
    let e = (goal.at.less-rest-requires c).After-loop-i in
    let g = c.requires.0 in
    let whole : Bounded most_in_a_series c.loop-i.margin = rw (margin e) (evening_bounded c.args.book g) in
    let paid : Bounded most_in_a_series c.loop-i.book.intraday_paid = rw (series e) g.paid in
    (whole, search (whole, paid, bounded_zeros most_in_a_series cells))

-- what is left once the intraday session's payments are taken away
rest : (c : After-less-rest) → c.less-rest.result ≡ table cells (λ k. at (by_series (paid_for c.args.book (evening_margin_in c.args.book))) k -ℤ at c.args.book.intraday_paid k)
rest c =
    let b = c.args.book in
    let e = c.before.before in
    c.less-rest.ensures
    ∙ ap (λ (l : List ℤ). table cells (λ k. at l k -ℤ at c.loop-i.book.intraday_paid k)) (margin e)
    ∙ ap (λ (n : Book). table cells (λ k. at (by_series (paid_for b (evening_margin_in b))) k -ℤ at n.intraday_paid k)) (series e)

pub in_all-money-requires : goal.in_all-money-requires
in_all-money-requires c = rw (rest (goal.at.in_all-money-requires c).After-less-rest) (rest_bounded c.args.book c.requires.0)

money : (c : After-in_all-money) → c.in_all-money.result ≡ table accounts (evening_money c.args.book)
money c = c.in_all-money.ensures ∙ evening_in_all c.args.book c.requires.0 _ (rest c.before.before)

pub pay-book-requires : goal.pay-book-requires
pay-book-requires c =
    let e = (goal.at.pay-book-requires c).After-loop-i in
    let m = (goal.at.pay-book-requires c).After-in_all-money in
    let b = c.args.book in
    let g = c.requires.0 in
    (rw (series e) (cash_bounded b g), rw (money m) (bounded_table accounts (evening_money b) (evening_within b g)))

pub overflow_add-book : goal.overflow_add-book
overflow_add-book c = omega (arith, c.requires.1)

pub returns : goal.returns
returns c =
    let e = (goal.at.returns c).After-loop-i in
    let m = (goal.at.returns c).After-in_all-money in
    let b = c.args.book in
    let cash : c.pay-book.result ≡ paid_into b.cash (evening_money b) =
    c.pay-book.ensures ∙ ap (λ (k : Book). table accounts (λ a. at k.cash a +ℤ at c.in_all-money.result a)) (series e) ∙ paid_into_lem b.cash (evening_money b) _ (money m) in
    λ i. record {
      answer = Done;
      money = money m i;
      book = with_day (with_cash (with_intraday (with_blotter (series e i) (series e i).blotter 0) false none_paid) (cash i)) (b.day + 1);
    }
