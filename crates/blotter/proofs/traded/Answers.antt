-- `blotter::traded` meets its contract: after k trades the array holds what those k cost, by series and account.
use mathlib.Core.Path.{◌≡◌, sym}
use mathlib.Core.Logic.{◌≢◌}
use Prim.Native.Nat.{ℕ, ◌+◌, ◌<◌}
use native.Mathlib.Omega.{arith}
use lib.IntN.{pos, ◌+ℤ◌}
use lib.ListN.{get_or, set, take, length}
use lib.Seq.{length-take-le, get_or-take}
use mir.Syntax.{w64}
use Rattle.std.proofs.Common.{rules}
use Rattle.terms.specs.Bounds.{blotter_room}
use Rattle.integer.specs.Bounds.{Bounded}
use Rattle.integer.proofs.Bounds.{within_pos, bounded_le, bounded_set}
use Rattle.integer.proofs.Machine.{Reads, param, same, plus, minus, local, fits, moved_is}
use Rattle.integer.proofs.Sum.{sum_to_zero, sum_to_next}
use Rattle.integer.specs.Table.{at}
use Rattle.margin.specs.Bounds.{max_due, max_traded}
use Rattle.margin.specs.BySeries.{cell}
use Rattle.margin.specs.Margin.{trade_of, TradeWithin}
use Rattle.margin.specs.declared.trade.Trade.{Trade}
use Rattle.margin.proofs.BySeries.{holds_zeros, holds_ext, is_by_series, bounded_holds}
use Rattle.margin.proofs.Cost.{due, due_small, paid_over, trades_small}
use Rattle.blotter.proofs.traded.Goals.{After-amount-due, In-loop-trade}
use Rattle.blotter.proofs.traded.Goals as goal

-- ---- the turn of the loop
module _ (c : In-loop-trade) where
  abbrev trade : Trade
  trade = trade_of (take c.args.trades c.args.blotter) c.loop-trade.trade-index

  abbrev coefficient : ℕ
  coefficient = get_or c.args.coefficients trade.series 0

  -- the trades passed are the blotter's first
  before_last : c.loop-trade.trade-index < c.args.trades
  before_last =
      let long : length c.args.blotter ≡ blotter_room = search rules in
      let passed : length (take c.args.trades c.args.blotter) ≡ c.args.trades = length-take-le c.args.trades c.args.blotter (rw long c.requires.0) in
      omega (arith, passed, c.loop-trade-test.true)

  of_the_blotter : trade ≡ trade_of c.args.blotter c.loop-trade.trade-index
  of_the_blotter = get_or-take c.args.trades c.args.blotter c.loop-trade.trade-index _ before_last

  within : TradeWithin trade
  within = rw of_the_blotter (c.requires.1.each c.loop-trade.trade-index before_last)

  -- the places of the buyer and of the seller
  abbrev buyer : ℕ
  buyer = cell trade.series trade.buyer

  abbrev seller : ℕ
  seller = cell trade.series trade.seller

  apart : buyer ≢ seller
  apart e = within.apart (omega arith)

  bounded : Bounded max_traded c.loop-trade.out
  bounded =
      bounded_holds c.loop-trade.invariant.1
      (λ i a _ _. trades_small c.args.blotter c.loop-trade.trade-index (omega (arith, before_last, c.requires.0)) (record { each = λ j l. c.requires.1.each j (omega (arith, before_last)) }) i _
      (c.requires.2.each i) a)

-- ---- what is due, as the call gave it
module _ (c : After-amount-due) where
  abbrev turn : In-loop-trade
  turn = c.before.before.before.before.before.before

  abbrev owed : Reads max_due (pos (due (coefficient turn) (trade turn)))
  owed =
      local w64
      (same c.amount-due.result c.amount-due.ensures (within_pos (due_small (coefficient turn) (trade turn) (turn.requires.2.each _) (within turn))))
      tt

  -- the first store, of whichever place and at whichever, leaves each amount within one trade more
  abbrev more_by : (q : ℕ) → Reads (max_traded + max_due) (at turn.loop-trade.out q +ℤ pos (due (coefficient turn) (trade turn)))
  more_by q = plus (param w64 ((bounded turn).each q) tt) owed

  stored : (p q : ℕ) → Bounded (max_traded + max_due) (set turn.loop-trade.out p (local w64 (more_by q) tt).raw)
  stored p q = bounded_set p (bounded_le (bounded turn) (omega arith)) (rw (local w64 (more_by q) tt).is (more_by q).bound)

-- ---- what the code asks, in its order

pub loop-trade-init : goal.loop-trade-init
loop-trade-init c = (omega arith, holds_zeros _ (λ i a. sum_to_zero _))

pub overflow_add-out : goal.overflow_add-out
overflow_add-out c = fits w64 (more_by (goal.at.overflow_add-out c).After-amount-due _) tt

pub overflow_sub-out : goal.overflow_sub-out
overflow_sub-out c =
    let known = (goal.at.overflow_sub-out c).After-amount-due in
    fits w64 (minus (param w64 ((stored known _ _).each _) tt) (owed known)) tt

pub loop-trade-preserved : goal.loop-trade-preserved
loop-trade-preserved c =
    let known = (goal.at.loop-trade-preserved c).After-amount-due in
    let l = turn known in
    let out = l.loop-trade.out in (
      omega (arith, before_last l),
      rw (moved_is w64 out (buyer l) (seller l) (apart l) (bounded l) (owed known) tt tt)
          (holds_ext (λ i a. rw (of_the_blotter l) (sym (sum_to_next l.loop-trade.trade-index _)))
          (paid_over out _ (λ i. get_or l.args.coefficients i 0) (trade l) (within l) l.loop-trade.invariant.1)),
    )

pub returns : goal.returns
returns c =
    let long : length c.args.blotter ≡ blotter_room = search rules in
    let passed : length (take c.args.trades c.args.blotter) ≡ c.args.trades = length-take-le c.args.trades c.args.blotter (rw long c.requires.0) in
    let e : c.loop-trade.trade-index ≡ c.args.trades = omega (arith, passed, c.loop-trade-test.false) in
    rw e at (is_by_series c.loop-trade.invariant.1)
