-- The open interest of a series (RULES, "Open interest"), by its positions at all places.
use Rattle.std.specs.Prelude.{List, ℕ, ℤ}
use Rattle.integer.specs.Sum.{sumℕ}
use Rattle.integer.specs.Table.{at}
use Rattle.places.specs.Places.{places}
use Rattle.exercise.specs.Exercise.{held, short}

-- "the contracts that its holders have, over all accounts and sections"
unfoldable pub held_in_all : List ℤ → ℕ
held_in_all positions = sumℕ places (λ k. held (at positions k))

-- "what its writers are short in all": the O of assignment
unfoldable pub short_in_all : List ℤ → ℕ
short_in_all positions = sumℕ places (λ k. short (at positions k))
