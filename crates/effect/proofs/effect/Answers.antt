-- `effect::effect` meets its contract: each arm is its event.
use mathlib.Core.Path.{◌≡◌, refl, sym, ap, ◌∙◌}
use Rattle.book.specs.Effects.{effect_of}
use Rattle.book.specs.declared.state.Effect.{Effect}
use Rattle.book.specs.declared.state.Event.{Event}
use Rattle.effect.proofs.effect.Goals as goal

-- what an arm gave is the effect of the event that it matched
matched : (effect : Event → Effect) {event : Event} (e : Event) (r : Effect) → r ≡ effect e → event ≡ e → r ≡ effect event
matched effect e r p q = p ∙ ap effect (sym q)

pub trade-requires : goal.trade-requires
trade-requires c lt = c.requires (rw c.in-Trade.is lt)

pub returns-in-List : goal.returns-in-List
returns-in-List c = matched (effect_of c.args.today c.args.listing c.args.positions.now) _ _ refl c.in-List.is

pub returns-in-Trade : goal.returns-in-Trade
returns-in-Trade c = matched (effect_of c.args.today c.args.listing c.args.positions.now) _ _ c.trade.ensures c.in-Trade.is

pub returns-in-Exercise : goal.returns-in-Exercise
returns-in-Exercise c = matched (effect_of c.args.today c.args.listing c.args.positions.now) _ _ c.exercise.ensures c.in-Exercise.is

pub returns-in-Decline : goal.returns-in-Decline
returns-in-Decline c = matched (effect_of c.args.today c.args.listing c.args.positions.now) _ _ c.decline.ensures c.in-Decline.is

pub returns-in-Mark : goal.returns-in-Mark
returns-in-Mark c = matched (effect_of c.args.today c.args.listing c.args.positions.now) _ _ c.mark.ensures c.in-Mark.is

pub returns-in-Intraday : goal.returns-in-Intraday
returns-in-Intraday c = matched (effect_of c.args.today c.args.listing c.args.positions.now) _ _ refl c.in-Intraday.is

pub returns-in-Evening : goal.returns-in-Evening
returns-in-Evening c = matched (effect_of c.args.today c.args.listing c.args.positions.now) _ _ refl c.in-Evening.is
