-- What follows from the bounds, in kopecks: "No money sum can pass 64 signed bits within these bounds".
use Rattle.std.specs.Prelude.{ℕ, ◌+◌, ◌*◌, ◌/◌}
use Rattle.terms.specs.Bounds.{series_room, final_day, max_option_price, max_tick_value, max_quantity, max_position, blotter_room}

-- the value of the largest option price at the largest coefficient
abbrev pub max_value : ℕ
max_value = max_option_price * max_tick_value / 100000

-- what a position is worth, and what it gains from its worth at the day's start
abbrev pub max_worth : ℕ
max_worth = max_position * max_value

abbrev pub max_gain : ℕ
max_gain = 2 * max_worth

-- what a trade costs, and what the trades of a day cost
abbrev pub max_due : ℕ
max_due = max_quantity * max_value

abbrev pub max_traded : ℕ
max_traded = blotter_room * max_due

-- the most that a day's variation margin moves for an account: in one series, and in all
abbrev pub most_in_a_series : ℕ
most_in_a_series = max_gain + max_traded

abbrev pub most_in_a_day : ℕ
most_in_a_day = series_room * max_gain + max_traded

-- an account's cash: what the evenings of all days paid, and the intraday session after them
abbrev pub max_cash : ℕ
max_cash = (final_day + 2) * most_in_a_day

-- futures at a place: an evening brings at most max_position
abbrev pub max_futures : ℕ
max_futures = final_day * max_position
