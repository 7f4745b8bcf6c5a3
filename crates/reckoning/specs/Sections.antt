-- What a list of events leaves in section 1 where no event names it (RULES, "The reckoning").
use Rattle.std.specs.Prelude.{◌≡◌, false, [], ◌∷◌, ℕ, pos}
use mathlib.Core.List as list
use Rattle.integer.specs.Table.{at}
use Rattle.places.specs.Places.{amount, flag}
use Rattle.series.specs.declared.state.Series.{Series}
use Rattle.book.specs.declared.state.Event.{Event}
use Rattle.book.specs.declared.state.Event.TheVariants.{List, Trade, Exercise, Decline, Mark, Intraday, Evening}

-- "no event names a section but 0", as no row without sections does: an event, and a list of events
abbrev pub InSection0 : Event → Type 0
InSection0 (List n) = Unit {0}
InSection0 (Trade d) = (d.buyer_section ≡ 0) × (d.seller_section ≡ 0)
InSection0 (Exercise r) = r.section ≡ 0
InSection0 (Decline w) = w.section ≡ 0
InSection0 (Mark q) = Unit {0}
InSection0 Intraday = Unit {0}
InSection0 Evening = Unit {0}

abbrev pub AllInSection0 : list.List Event → Type 0
AllInSection0 [] = Unit {0}
AllInSection0 (e ∷ es) = InSection0 e × AllInSection0 es

-- nothing stands at place k of a series: "positions, opening positions, requests and futures, and nobody declined there"
pub record EmptyAt (s : Series) (k : ℕ) : Type 0 where
  pub position : at s.positions k ≡ pos 0
  pub opening : at s.opening k ≡ pos 0
  pub request : amount s.requests k ≡ 0
  pub declined : flag s.declined k ≡ false
  pub futures : at s.futures k ≡ pos 0
