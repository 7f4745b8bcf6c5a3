-- Places of accounts with any number n of sections each: the sections of account 0, then those of account 1, and so on.
use Rattle.std.specs.Prelude.{ℕ, ◌+◌, ◌*◌, ◌/◌, ◌%◌, ℤ, nat_abs}
use Rattle.integer.specs.Sum.{sum_to, sumℕ}

module _ (n : ℕ) where
  -- the place of an account's section
  abbrev pub place_among : ℕ → ℕ → ℕ
  place_among account section = account * n + section

  -- the account and the section that a place is of
  abbrev pub account_among : ℕ → ℕ
  account_among place = place / n

  abbrev pub section_among : ℕ → ℕ
  section_among place = place % n

  -- the sum of f over an account's places
  abbrev pub sum_among : (ℕ → ℤ) → ℕ → ℤ
  sum_among f account = sum_to n (λ section. f (place_among account section))

  -- and without signs
  abbrev pub gross_among : (ℕ → ℤ) → ℕ → ℕ
  gross_among f account = sumℕ n (λ section. nat_abs (f (place_among account section)))
