-- What holds of the trades' periods after every list of events from an empty book, refused ones among them (RULES, "Events" and "The
-- reckoning").
use Rattle.std.specs.Prelude.{◌≡◌, ℕ, ◌≤◌, ◌<◌, length, take, Some}
use mathlib.Core.List as list
use Rattle.margin.specs.Margin.{in_period}
use Rattle.margin.specs.declared.trade.Trade as trade_type
use Rattle.series.specs.declared.event.Deal.{Deal}
use Rattle.book.specs.Answers.{answer_number, period_told}
use Rattle.book.specs.State.{empty_book, trade_at}
use Rattle.book.specs.Step.{entry_of, step_of, after}
use Rattle.book.specs.declared.state.Event.{Event}
use Rattle.book.specs.declared.state.Event.TheVariants.{Trade, Intraday, Evening}
use Rattle.reckoning.specs.Demand.{CarriedOut, up_to}

-- "an intraday session of that day came before it": an Intraday is carried out before place i, and no Evening between the two
pub record AfterIntraday (es : list.List Event) (i : ℕ) : Type 0 where
  pub session : ℕ
  pub earlier : session < i
  pub intraday : CarriedOut empty_book es Intraday session
  pub no_evening_since : (k : ℕ) → session < k → k < i → ¬ CarriedOut empty_book es Evening k

-- where in the blotter the trade at place i joins, and that record after the events up to place j
abbrev pub joins_at : list.List Event → ℕ → ℕ
joins_at es i = (after (take i es)).trades

abbrev pub record_after : list.List Event → ℕ → ℕ → trade_type.Trade
record_after es i j = trade_at (after (up_to j es)) (joins_at es i)

-- its record as it joins, and the period that stands there
abbrev pub record_at : list.List Event → ℕ → trade_type.Trade
record_at es i = record_after es i i

abbrev pub period_at : list.List Event → ℕ → ℕ
period_at es i = (record_at es i).period

-- no Evening is carried out after place i, up to place j
abbrev pub NoEvening : list.List Event → ℕ → ℕ → Type 0
NoEvening es i j = (k : ℕ) → i < k → k ≤ j → ¬ CarriedOut empty_book es Evening k

-- what holds of the trade d at place i, where it is carried out
pub record PeriodKept (es : list.List Event) (i : ℕ) (d : Deal) : Type 0 where
  -- the record is that of the trade
  pub its_own : record_at es i ≡ in_period (period_at es i) (entry_of d)
  -- "A trade's period is 2 in just the case that an intraday session of that day came before it, and 1 otherwise."
  pub second : AfterIntraday es i → period_at es i ≡ 2
  pub second_only : period_at es i ≡ 2 → AfterIntraday es i
  pub first : ¬ AfterIntraday es i → period_at es i ≡ 1
  -- the answer, of number 0, tells it
  pub number : answer_number (step_of (after (take i es)) (Trade d)).answer ≡ 0
  pub told : period_told (step_of (after (take i es)) (Trade d)).answer ≡ Some (period_at es i)
  -- and the record is one of the day's and stands as it is, up to every later place with no Evening carried out up to there
  pub today : (j : ℕ) → i ≤ j → j < length es → NoEvening es i j → joins_at es i < (after (up_to j es)).trades
  pub stands : (j : ℕ) → i ≤ j → j < length es → NoEvening es i j → record_after es i j ≡ record_at es i

-- it holds of every place where a trade is carried out
pub record Periods (es : list.List Event) : Type 0 where
  pub kept : (i : ℕ) (d : Deal) → CarriedOut empty_book es (Trade d) i → PeriodKept es i d
