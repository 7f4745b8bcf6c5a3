-- The lines of a calendar (RULES, "Trading calendar"): "DDMMYY and CRLF a line, the last may lack it".
use Rattle.std.specs.Prelude.{ℕ, zero, suc, ◌+◌, ◌*◌, ◌≤◌, ◌≡◌, List, [], ◌∷◌, ◌++◌, length, take, leb, ltb, eqb, Option, Some, None}
use Rattle.choice.specs.Choice.{choose}
use Rattle.decimal.specs.Scan.{on_scanned, byte_at}
use Rattle.contract.specs.Bounds.{date_length}
use Rattle.contract.specs.Code.{on_verdict}
use Rattle.contract.specs.Date.{date_text, date_verdict, date_at, on_date}
use Rattle.contract.specs.declared.types.Date.{Date}
use Rattle.calendar.specs.Days.{max_dates, number_of, dates_of}
use Rattle.calendar.specs.declared.types.Dates.{Dates}

-- CR LF
abbrev pub crlf : List ℕ
crlf = 13 ∷ 10 ∷ []

-- the lines of dates, the last with a given end
unfoldable pub lines_text : List ℕ → List Date → List ℕ
lines_text end [] = []
lines_text end (d ∷ []) = date_text d ++ end
lines_text end (d ∷ e ∷ ds) = date_text d ++ (crlf ++ lines_text end (e ∷ ds))

-- the bytes are the lines of these dates: "the last may lack it"
pub data Says (text : List ℕ) (ds : List Date) : Type 0 where
  ended : text ≡ lines_text crlf ds → Says text ds
  unended : text ≡ lines_text [] ds → Says text ds

-- the bytes that the lines of 1,000 dates have: a calendar has no more
abbrev pub max_text : ℕ
max_text = max_dates * (date_length + 2)

-- what bytes say: trading dates; or they are no calendar, which is 21
pub data Calendar : Type 0 where
  trading : List Date → Calendar
  broken : Calendar

-- Reading, line by line. The end of a line: CRLF, or the end of the bytes.
unfoldable pub line_end : List ℕ → ℕ → Option ℕ
line_end s at = choose (eqb at (length s)) (Some at) (on_scanned (byte_at s at 13) None (λ n. byte_at s n 10))

-- a line: a date, and the place after the line's end
unfoldable pub line_at : List ℕ → ℕ → Option (Date × ℕ)
line_at s at =
    on_date (date_at s at) None (λ date n.
    on_verdict (date_verdict date) (on_scanned (line_end s n) None (λ next. Some (date, next))) (λ r. None))

-- one date more in front
unfoldable pub onto : Date → Calendar → Calendar
onto d (trading ds) = trading (d ∷ ds)
onto d broken = broken

-- the lines from a place on, no more than there is room for, each date after the number before it
unfoldable pub lines_from : ℕ → List ℕ → ℕ → ℕ → Calendar
lines_from zero s before at = choose (leb (length s) at) (trading []) broken
lines_from (suc room) s before at =
    choose (leb (length s) at) (trading [])
    (on_date (line_at s at) broken (λ d n.
    choose (ltb before (number_of d)) (onto d (lines_from room s (number_of d) n)) broken))

-- what bytes say as a calendar, from the first line on: just the lines of trading dates are one (`calendar_read`)
unfoldable pub calendar_of : List ℕ → Calendar
calendar_of s = lines_from max_dates s 0 0

-- what the reader answers: the dates that the first of its numbers say
unfoldable pub read_as : Option Dates → Calendar
read_as (Some dates) = trading (dates_of (take dates.count dates.numbers))
read_as None = broken

-- no more than it has numbers
unfoldable pub Few : Option Dates → Type 0
Few (Some dates) = dates.count ≤ max_dates
Few None = Unit {0}

-- room for all the dates that there may be
unfoldable pub Room : Option Dates → Type 0
Room (Some dates) = length dates.numbers ≡ max_dates
Room None = Unit {0}

pub record ReadAs (answer : Option Dates) (calendar : Calendar) : Type 0 where
  pub says : read_as answer ≡ calendar
  pub few : Few answer
  pub room : Room answer
