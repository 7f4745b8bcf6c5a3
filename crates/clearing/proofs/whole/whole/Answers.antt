-- `clearing::whole::whole` meets its contract: each arm is its event.
use Rattle.std.specs.Prelude.{Err}
use mathlib.Core.Path.{◌≡◌, refl, sym, ap, ◌∙◌}
use Prim.Native.Nat.{◌≤◌}
use native.Mathlib.Omega.{arith}
use Rattle.choice.specs.Choice.{choose}
use Rattle.terms.specs.Bounds.{series_room}
use Rattle.series.specs.declared.event.NewSeries.{NewSeries}
use Rattle.series.specs.declared.refusal.Refusal.TheVariants.{Finished, UnknownSeries}
use Rattle.series.specs.Refusals.{Verdict}
use Rattle.book.specs.Effects.{series_of}
use Rattle.book.specs.Good.{Good}
use Rattle.book.specs.State.{today_of}
use Rattle.book.specs.Step.{step_of, refused}
use Rattle.book.specs.Verdicts.{finished, unlisted, verdict_of}
use Rattle.book.specs.declared.state.Book.{Book}
use Rattle.book.specs.declared.state.Event.{Event}
use Rattle.book.specs.declared.state.Event.TheVariants.{List, Trade, Exercise, Decline, Mark, Intraday, Evening}
use Rattle.book.specs.declared.state.Step.{Step}
use Rattle.book.proofs.Decided.{by_refusal}
use Rattle.book.proofs.Effects.{no_such_series}
use Rattle.clearing.proofs.whole.whole.Goals as goal

-- what an arm gave is the step of the event that it matched
matched : (b : Book) {event : Event} (e : Event) (r : Step) → r ≡ step_of b e → event ≡ e → r ≡ step_of b event
matched b e r p q = p ∙ ap (step_of b) (sym q)

-- an event on a series whose number is past every series: what such an event gives, and that it is one since it is of no other kind
module _ (b : Book) (good : Good b) {r : Step} (p : r ≡ refused b (choose (finished (today_of b)) Finished UnknownSeries)) where
  past_all : (e : Event) (v : Verdict) → series_room ≤ series_of e
      → verdict_of b e ≡ choose (finished (today_of b)) (Err Finished) (choose (unlisted (today_of b) (series_of e)) (Err UnknownSeries) v)
      → r ≡ step_of b e
  past_all e v le is = by_refusal b e p (no_such_series b (series_of e) v (omega (arith, good.listed, le)) ∙ sym is)

  on_none : (e : Event) → series_room ≤ series_of e → ((n : NewSeries) → ¬ (e ≡ List n)) → ¬ (e ≡ Intraday) → ¬ (e ≡ Evening) → r ≡ step_of b e
  on_none (List n) le l i v = absurd (l n refl)
  on_none (Trade d) le l i v = past_all (Trade d) _ le refl
  on_none (Exercise q) le l i v = past_all (Exercise q) _ le refl
  on_none (Decline w) le l i v = past_all (Decline w) _ le refl
  on_none (Mark q) le l i v = past_all (Mark q) _ le refl
  on_none Intraday le l i v = absurd (i refl)
  on_none Evening le l i v = absurd (v refl)

pub returns-in-List : goal.returns-in-List
returns-in-List c = matched c.args.book _ _ c.list.ensures c.in-List.is

pub returns-in-Intraday : goal.returns-in-Intraday
returns-in-Intraday c = matched c.args.book _ _ c.intraday.ensures c.in-Intraday.is

pub returns-in-Evening : goal.returns-in-Evening
returns-in-Evening c = matched c.args.book _ _ c.evening.ensures c.in-Evening.is

pub returns : goal.returns
returns c =
    on_none c.args.book c.requires.0 c.no_such_series.ensures c.args.event c.requires.1 c.in_default.not-List c.in_default.not-Intraday c.in_default.not-Evening
