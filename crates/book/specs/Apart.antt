-- The positions of all series, with the open interest of each, apart from the book, as the code has them while it carries rows out; and the
-- book with them put back.
use Rattle.std.specs.Prelude.{List, [], ℕ, get_or}
use Rattle.integer.specs.Table.{table}
use Rattle.terms.specs.Bounds.{series_room}
use Rattle.series.specs.Series.{with_positions}
use Rattle.series.specs.declared.state.Series.{Series}
use Rattle.book.specs.State.{no_series, with_all_series}
use Rattle.book.specs.declared.state.Book.{Book}
use Rattle.book.specs.declared.state.Held.{Held}

-- those of series i; past the end, where nothing looks, none
abbrev pub held_at : List Held → ℕ → Held
held_at held i = get_or held i (record { positions = []; open_interest = 0 })

-- taken out of one series, and of all
abbrev pub held_of : Series → Held
held_of s = record { positions = s.positions; open_interest = s.open_interest }

abbrev pub taken_out : List Series → List Held
taken_out series = table series_room (λ i. held_of (get_or series i no_series))

-- and put back
abbrev pub with_held : Series → Held → Series
with_held s h = with_positions s h.positions h.open_interest

abbrev pub put_back : List Series → List Held → List Series
put_back series held = table series_room (λ i. with_held (get_or series i no_series) (held_at held i))

abbrev pub rejoined : Book → List Held → Book
rejoined b held = with_all_series b (put_back b.series held)
