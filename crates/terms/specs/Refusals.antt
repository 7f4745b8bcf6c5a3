-- The number of each refusal, in the order of their table (RULES, "Refusals"): the trade's word and when it applies.
use Rattle.std.specs.Prelude.{ℕ}

-- finished: day 999's evening is over; every event
abbrev pub finished : ℕ
finished = 1

-- unknown series: number not listed
abbrev pub unknown_series : ℕ
unknown_series = 2

-- expired: series past its last evening
abbrev pub expired : ℕ
expired = 3

-- unknown account: above 63
abbrev pub unknown_account : ℕ
unknown_account = 4

-- own trade: buyer is seller
abbrev pub own_trade : ℕ
own_trade = 5

-- size: trade quantity outside its bounds
abbrev pub size : ℕ
size = 6

-- price: a price outside its bounds; a trade price no multiple of R
abbrev pub price : ℕ
price = 7

-- position limit: either side would pass 100,000
abbrev pub position_limit : ℕ
position_limit = 8

-- blotter full: 256 trades stand today
abbrev pub blotter_full : ℕ
blotter_full = 9

-- terms: strike, R or last day outside bounds
abbrev pub terms : ℕ
terms = 10

-- series full: 8 are listed
abbrev pub series_full : ℕ
series_full = 11

-- not today: European exercise or any decline before the last day
abbrev pub not_today : ℕ
not_today = 12

-- not held: request above the position, counted as 0 if short
abbrev pub not_held : ℕ
not_held = 13

-- tick value: W, or c, outside 1 to 200,000,000
abbrev pub tick_value : ℕ
tick_value = 14

-- second intraday: one was carried out today
abbrev pub second_intraday : ℕ
second_intraday = 15

-- no mark: a live series lacks one; the lowest such series is named
abbrev pub no_mark : ℕ
no_mark = 16

-- code: layout broken
abbrev pub code : ℕ
code = 17

-- date: no calendar date
abbrev pub date : ℕ
date = 18

-- strike text: 0 or above 100000
abbrev pub strike_text : ℕ
strike_text = 19

-- row: not one of the rows below
abbrev pub row : ℕ
row = 20

-- calendar: the trading calendar isn't strictly rising, is too long or holds what is no date, or its file can't be read; printed as row 0 in
-- place of all rows
abbrev pub calendar : ℕ
calendar = 21

-- no trading date: in a row that ends after R the code's date isn't in the calendar; directly after 19
abbrev pub no_trading_date : ℕ
no_trading_date = 22

-- unknown section: above 1; of a trade, either side's; directly after 4
abbrev pub unknown_section : ℕ
unknown_section = 23
