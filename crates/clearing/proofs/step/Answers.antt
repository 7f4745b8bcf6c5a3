-- `clearing::step` meets its contract: it is the event's step, and every step keeps the book good.
use mathlib.Core.Path.{◌≡◌, ap, ◌∙◌}
use Prim.Native.Nat.{◌<◌}
use native.Mathlib.Omega.{arith}
use Rattle.terms.specs.Bounds.{blotter_room}
use Rattle.series.specs.Good.{GoodSeries}
use Rattle.book.specs.Effects.{Fits, effect_of}
use Rattle.book.specs.Good.{Good}
use Rattle.book.specs.State.{series_at, today_of}
use Rattle.book.specs.Step.{step_of}
use Rattle.book.specs.declared.state.Book.{Book}
use Rattle.book.specs.declared.state.Event.{Event}
use Rattle.book.specs.declared.state.Step.{Step}
use Rattle.book.specs.declared.state.Today.{Today}
use Rattle.book.proofs.Effects.{next_record_within, effect_fits, effect_at, step_stored}
use Rattle.book.proofs.Keeps.{stays_good}
use Rattle.clearing.proofs.step.Goals.{After-effect-effect, After-next_record-n}
use Rattle.clearing.proofs.step.Goals as goal

stepped : (b : Book) (e : Event) → Good b → {r : Step} → r ≡ step_of b e → (r ≡ step_of b e) × Good r.book
stepped b e g is = (is, stays_good b e _ g is)

-- where the effect is known
good : (c : After-effect-effect) → GoodSeries c.args.book.day (series_at c.args.book c.series_of-i.result)
good c = c.requires.series c.series_of-i.result c.if-i-ge-SERIES.false

acts : (c : After-effect-effect) → c.effect-effect.result ≡ effect_at c.args.book c.series_of-i.result c.args.event
acts c =
    let s = series_at c.args.book c.series_of-i.result in
    c.effect-effect.ensures ∙ ap (λ (t : Today). effect_of t s.listing s.positions c.args.event) c.today_of-today.ensures

fits : (c : After-effect-effect) → Fits c.effect-effect.result
fits c = rw (acts c) (effect_fits (today_of c.args.book) (series_at c.args.book c.series_of-i.result).listing _ (good c).positions.bounded c.args.event)

trade_type : (c : After-next_record-n) → c.next_record-n.result < blotter_room
trade_type c = rw c.next_record-n.ensures (next_record_within _)

pub returns-then-i-ge-SERIES : goal.returns-then-i-ge-SERIES
returns-then-i-ge-SERIES c = stepped c.args.book c.args.event c.requires c.whole.ensures

pub effect-effect-requires : goal.effect-effect-requires
effect-effect-requires c = let n = c.series_of-i in rw (← n.ensures, c.today_of-today.ensures) (c.requires.tick n.result)

pub interest-s-requires : goal.interest-s-requires
interest-s-requires c =
    let known = (goal.at.interest-s-requires c).After-effect-effect in
    (fits known, (good known).positions.bounded, (good known).interest)

pub move_positions-requires : goal.move_positions-requires
move_positions-requires c =
    let known = (goal.at.move_positions-requires c).After-effect-effect in
    (fits known, (good known).positions.bounded)

pub set_request-requires : goal.set_request-requires
set_request-requires c = fits (goal.at.set_request-requires c).After-effect-effect

pub set_decline-requires : goal.set_decline-requires
set_decline-requires c = fits (goal.at.set_decline-requires c).After-effect-effect

pub offset_bounds-book-n : goal.offset_bounds-book-n
offset_bounds-book-n c = omega (arith, trade_type (goal.at.offset_bounds-book-n c).After-next_record-n)

pub bounds-book-n : goal.bounds-book-n
bounds-book-n c = trade_type (goal.at.bounds-book-n c).After-next_record-n

pub offset_bounds-book-n-2 : goal.offset_bounds-book-n-2
offset_bounds-book-n-2 c = omega (arith, trade_type (goal.at.offset_bounds-book-n-2 c).After-next_record-n)

pub bounds-book-n-2 : goal.bounds-book-n-2
bounds-book-n-2 c = trade_type (goal.at.bounds-book-n-2 c).After-next_record-n

pub returns : goal.returns
returns c =
    stepped c.args.book c.args.event c.requires
    (step_stored c.args.book c.args.event _ _ c.series_of-i.ensures c.if-i-ge-SERIES.false c.next_record-n.ensures _ (acts (goal.at.returns c).After-effect-effect)
    (record {
      answer = c.answer.ensures;
      moved = c.move_positions.ensures;
      kept = c.interest-s.ensures;
      requested = c.set_request.ensures;
      declining = c.set_decline.ensures;
      mark = c.mark-s.ensures;
      recorded = c.entry.ensures;
      counted = c.counted.ensures;
    }))
