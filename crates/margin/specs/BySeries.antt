-- Amounts by series and account, in one array: series i, account a at i × accounts + a.
use Rattle.std.specs.Prelude.{List, ℕ, ◌+◌, ◌*◌, ◌/◌, ◌%◌, eqb, ℤ}
use Rattle.choice.specs.Choice.{choose}
use Rattle.integer.specs.Sum.{sum_to}
use Rattle.integer.specs.Table.{at, table}
use Rattle.terms.specs.Bounds.{accounts, series_room}

abbrev pub cells : ℕ
cells = series_room * accounts

abbrev pub cell : ℕ → ℕ → ℕ
cell i a = i * accounts + a

-- the array of the amounts f
abbrev pub by_series : (ℕ → ℕ → ℤ) → List ℤ
by_series f = table cells (λ k. f (k / accounts) (k % accounts))

-- the array with the amounts of series i changed, each by its account; those of the other series as they were
abbrev pub in_series : ℕ → (ℕ → ℤ → ℤ) → List ℤ → List ℤ
in_series i f l = table cells (λ k. choose (eqb (k / accounts) i) (f (k % accounts) (at l k)) (at l k))

-- each account's amounts of all series, added up
abbrev pub in_all : List ℤ → List ℤ
in_all l = table accounts (λ a. sum_to series_room (λ i. at l (cell i a)))
