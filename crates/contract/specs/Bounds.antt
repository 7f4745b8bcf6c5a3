-- The bounds of a code's parts (RULES, "Contract codes"), and the lengths that follow from them, in bytes.
use Rattle.std.specs.Prelude.{ℕ, ◌+◌, ◌/◌}
use Rattle.terms.specs.Bounds.{max_strike}

-- a futures code is 1 to 8 capitals, a hyphen, a month 1 to 12, a point and two year digits
abbrev pub max_name : ℕ
max_name = 8

abbrev pub months : ℕ
months = 12

abbrev pub max_future : ℕ
max_future = max_name + 1 + 2 + 1 + 2

-- DDMMYY
abbrev pub date_length : ℕ
date_length = 2 + 2 + 2

-- C or P, A or E
abbrev pub kind_length : ℕ
kind_length = 1 + 1

-- one blank, in the style that has it
abbrev pub max_style_text : ℕ
max_style_text = 1

-- the least number of units that no strike has; a strike with hundredths has one digit less, a point and two digits
abbrev pub too_many_units : ℕ
too_many_units = max_strike / 100 + 1

abbrev pub max_strike_text : ℕ
max_strike_text = 5 + 1 + 2

-- the futures code, M, the date, type and category, the blank, and the strike
abbrev pub max_code : ℕ
max_code = max_future + 1 + date_length + kind_length + max_style_text + max_strike_text
