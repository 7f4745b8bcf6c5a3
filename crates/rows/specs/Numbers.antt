-- The table of refusals (RULES, "Refusals"), line by line: the number of each refusal of the book (series/specs/Refusals.antt), of each row
-- that never reaches it (Row.antt), and of a calendar that is none.
use Rattle.std.specs.Prelude.{◌≡◌, ℕ}
use Rattle.terms.specs.Refusals as no
use Rattle.contract.specs.declared.types.Refusal.TheVariants.{Layout, NoDate, StrikeText}
use Rattle.series.specs.Refusals.{number}
use Rattle.series.specs.declared.refusal.Refusal.TheVariants.{Finished, UnknownSeries, Expired, UnknownAccount, UnknownSection, OwnTrade, Size, Price, PositionLimit, BlotterFull, Terms, SeriesFull, NotToday, NotHeld, TickValue, SecondIntraday, NoMark}
use Rattle.rows.specs.Row as rows
use Rattle.rows.specs.declared.types.Refusal.TheVariants.{Row, Code, NoTradingDate}

pub record RefusalTable : Type 0 where
  pub finished : number Finished ≡ 1
  pub unknown_series : number UnknownSeries ≡ 2
  pub expired : number Expired ≡ 3
  pub unknown_account : number UnknownAccount ≡ 4
  pub own_trade : number OwnTrade ≡ 5
  pub size : number Size ≡ 6
  pub price : number Price ≡ 7
  pub position_limit : number PositionLimit ≡ 8
  pub blotter_full : number BlotterFull ≡ 9
  pub terms : number Terms ≡ 10
  pub series_full : number SeriesFull ≡ 11
  pub not_today : number NotToday ≡ 12
  pub not_held : number NotHeld ≡ 13
  pub tick_value : number TickValue ≡ 14
  pub second_intraday : number SecondIntraday ≡ 15
  pub no_mark : (i : ℕ) → number (NoMark i) ≡ 16
  pub code : rows.number (Code Layout) ≡ 17
  pub date : rows.number (Code NoDate) ≡ 18
  pub strike_text : rows.number (Code StrikeText) ≡ 19
  pub row : rows.number Row ≡ 20
  pub calendar : no.calendar ≡ 21
  pub no_trading_date : rows.number NoTradingDate ≡ 22
  pub unknown_section : number UnknownSection ≡ 23
