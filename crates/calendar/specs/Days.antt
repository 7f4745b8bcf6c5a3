-- The trading calendar (RULES, "Trading calendar"): a list of dates, and the day that each of them has.
use Rattle.std.specs.Prelude.{ℕ, zero, suc, ◌+◌, ◌*◌, ◌/◌, ◌%◌, ◌≤◌, ◌<◌, ◌≡◌, Bool, false, ◌⊎◌, List, [], ◌∷◌, map, length, eqb, Option, Some, None}
use Rattle.choice.specs.Choice.{choose}
use Rattle.contract.specs.Date.{CalendarDate, TwoDigitsEach}
use Rattle.contract.specs.declared.types.Date.{Date}

-- the same date: day, month and year are
unfoldable pub same_date : Date → Date → Bool
same_date d e = choose (eqb d.day e.day) (choose (eqb d.month e.month) (eqb d.year e.year) false) false

-- "a date in the list has the day that its place says": its place, where places are counted from i; "a date that isn't in the list has
-- none"
unfoldable pub day_from : ℕ → List Date → Date → Option ℕ
day_from i [] d = None
day_from i (e ∷ es) d = choose (same_date e d) (Some i) (day_from (i + 1) es d)

-- "The first is day 0, the next day 1, and so on"
abbrev pub day_of : List Date → Date → Option ℕ
day_of ds d = day_from 0 ds d

-- one date is before another: by year, then month, then day
abbrev pub EarlierInYear : Date → Date → Type 0
EarlierInYear d e = (d.month < e.month) ⊎ ((d.month ≡ e.month) × (d.day < e.day))

abbrev pub Earlier : Date → Date → Type 0
Earlier d e = (d.year < e.year) ⊎ ((d.year ≡ e.year) × EarlierInYear d e)

-- "strictly rising": each date is before the next
abbrev pub Rising : List Date → Type 0
Rising [] = Unit {0}
Rising (d ∷ []) = Unit {0}
Rising (d ∷ e ∷ ds) = Earlier d e × Rising (e ∷ ds)

-- "a list of at most 1,000 dates"
abbrev pub max_dates : ℕ
max_dates = 1000

-- "Dates are those of contract codes (YY is 2000 to 2099, Gregorian)."
abbrev pub EachDate : List Date → Type 0
EachDate [] = Unit {0}
EachDate (d ∷ ds) = (CalendarDate d × TwoDigitsEach d) × EachDate ds

pub record TradingDates (ds : List Date) : Type 0 where
  pub few : length ds ≤ max_dates
  pub dates : EachDate ds
  pub rising : Rising ds

-- A date as the number YYMMDD: of dates of two digits each the earlier has the smaller number (`in_order`).
abbrev pub number_of : Date → ℕ
number_of d = d.year * 10000 + d.month * 100 + d.day

-- The list as it is lent: the dates that such numbers say (`dates_lent`).
abbrev pub date_of : ℕ → Date
date_of n = record { day = n % 100; month = n / 100 % 100; year = n / 10000 }

abbrev pub dates_of : List ℕ → List Date
dates_of numbers = map date_of numbers

-- a date stands at a place of a list: the word in which the promises are made
abbrev pub Stands : List Date → ℕ → Date → Type 0
Stands [] i d = ⊥
Stands (e ∷ es) zero d = e ≡ d
Stands (e ∷ es) (suc i) d = Stands es i d
