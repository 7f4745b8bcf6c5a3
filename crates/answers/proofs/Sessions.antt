-- Which events are sessions, by the two kinds that the code names.
use mathlib.Core.Path.{◌≡◌, refl}
use mathlib.Core.Bool.{true, false}
use Rattle.std.specs.Prelude.{◌⊎◌}
use mathlib.Core.Logic.{inl, inr}
use Rattle.book.specs.declared.state.Event.{Event}
use Rattle.book.specs.declared.state.Event.TheVariants.{List, Trade, Exercise, Decline, Mark, Intraday, Evening}
use Rattle.report.specs.Report.{is_session}

pub session : (e : Event) → (e ≡ Intraday) ⊎ (e ≡ Evening) → true ≡ is_session e
unfolding is_session
session e (inl p) = rw p refl
session e (inr p) = rw p refl

pub no_session : (e : Event) → (e ≡ Intraday → ⊥) → (e ≡ Evening → ⊥) → false ≡ is_session e
unfolding is_session
no_session (List n) i v = refl
no_session (Trade d) i v = refl
no_session (Exercise r) i v = refl
no_session (Decline w) i v = refl
no_session (Mark q) i v = refl
no_session Intraday i v = absurd (i refl)
no_session Evening i v = absurd (v refl)
