-- `event_row::event_row` meets its contract: an event is the evening session, the intraday session, or none.
use mathlib.Core.Path.{◌≡◌, refl, sym, ◌∙◌}
use mathlib.Core.Bool.{true}
use Rattle.book.specs.declared.state.Event.{Event}
use Rattle.book.specs.declared.state.Event.TheVariants.{List, Trade, Exercise, Decline, Mark, Intraday, Evening}
use Rattle.book.proofs.Live.{false_not_true}
use Rattle.report.specs.Report.{is_session}
use Rattle.event_row.proofs.event_row.Goals as goal

-- a session that is not the evening's
other_session : (e : Event) → is_session e ≡ true → (e ≡ Evening → ⊥) → e ≡ Intraday
unfolding is_session
other_session (List n) h k = absurd (false_not_true h)
other_session (Trade d) h k = absurd (false_not_true h)
other_session (Exercise r) h k = absurd (false_not_true h)
other_session (Decline w) h k = absurd (false_not_true h)
other_session (Mark q) h k = absurd (false_not_true h)
other_session Intraday h k = refl
other_session Evening h k = absurd (k refl)

pub returns-in-Evening : goal.returns-in-Evening
returns-in-Evening c = rw c.in-Evening.is c.evening_row.ensures

pub returns-then-is_session : goal.returns-then-is_session
returns-then-is_session c = rw (other_session _ (sym c.is_session.ensures ∙ c.if-is_session.true) c.in_default.not-Evening) c.intraday_row.ensures

-- ---- no session
pub quiet_row-requires : goal.quiet_row-requires
quiet_row-requires c = (c.requires.0, c.requires.1, sym c.is_session.ensures ∙ c.if-is_session.false)
