-- The open interest of a series of the book (RULES, "Open interest").
use Rattle.std.specs.Prelude.{◌≡◌, false, ℕ, ◌*◌, ◌/◌, ◌≤◌}
use Rattle.integer.specs.Sum.{sumℕ}
use Rattle.terms.specs.Bounds.{accounts, max_position}
use Rattle.places.specs.Places.{places}
use Rattle.exercise.specs.Exercise.{held, short}
use Rattle.book.specs.State.{series_at, position_at, live}
use Rattle.book.specs.declared.state.Book.{Book}

-- "the contracts that its holders have, over all accounts and sections", of series i
unfoldable pub open_interest : Book → ℕ → ℕ
open_interest b i = sumℕ places (λ k. held (position_at b i k))

-- no series has more: half of 64 accounts' limits, since a contract has two sides
abbrev pub max_interest : ℕ
max_interest = accounts * max_position / 2

-- what holds of series i, of whatever number: the book keeps "what the holders have in all, and what the writers are short in all", and it
-- "is 0 for a series that is not listed or has expired"
pub record InterestKept (b : Book) (i : ℕ) : Type 0 where
  pub holders : (series_at b i).open_interest ≡ open_interest b i
  pub writers : (series_at b i).open_interest ≡ sumℕ places (λ k. short (position_at b i k))
  pub most : (series_at b i).open_interest ≤ max_interest
  pub not_live : live b i ≡ false → (series_at b i).open_interest ≡ 0
