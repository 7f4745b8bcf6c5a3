-- `trading::effect::trade` meets its contract: the effect by the verdict.
use mathlib.Core.Path.{refl, sym, ap, ◌∙◌}
use Prim.Native.Nat.{ℕ}
use native.Mathlib.Omega.{arith}
use Rattle.margin.specs.Margin.{in_period}
use Rattle.book.specs.Step.{entry_of}
use Rattle.book.specs.declared.state.Effect.TheVariants.{Traded}
use Rattle.book.proofs.Allowed.{TradeAllowed, trade_allowed}
use Rattle.book.proofs.Effects.{effect_refused, effect_allowed}
use Rattle.book.proofs.Decided.{verdict_is}
use Rattle.trading.proofs.effect.trade.Goals.{In_default, Start}
use Rattle.trading.proofs.effect.trade.Goals as goal

abbrev start : In_default → Start
start c = c.before.before

-- the verdict allows it
allowed : (c : In_default) → TradeAllowed (start c).args.today (start c).args.listing (start c).args.positions.now (start c).args.deal
allowed c = trade_allowed (start c).args.today (start c).args.listing (start c).args.positions.now (start c).args.deal (sym c.trade_verdict.ensures ∙ c.in_default.is)

pub returns-in-Err : goal.returns-in-Err
returns-in-Err c = effect_refused _ refl (verdict_is c.trade_verdict.ensures c.in-Err.is)

pub overflow_cast-t : goal.overflow_cast-t
overflow_cast-t c = omega (arith, (allowed c.before).buyer_section)

pub overflow_cast-t-2 : goal.overflow_cast-t-2
overflow_cast-t-2 c = omega (arith, (allowed c.before.before).seller_section)

pub overflow_cast-t-3 : goal.overflow_cast-t-3
overflow_cast-t-3 c = omega (arith, (allowed c.before.before.before.before).most)

pub overflow_cast-t-4 : goal.overflow_cast-t-4
overflow_cast-t-4 c = omega (arith, (allowed c.before.before.before.before.before).price)

pub returns : goal.returns
returns c =
    let period = c.before.before in
    let t = period.before.before.before in
    effect_allowed _ (ap (λ (p : ℕ). Traded (in_period p (entry_of (start t).args.deal))) period.period_of.ensures)
    (verdict_is t.trade_verdict.ensures t.in_default.is)
