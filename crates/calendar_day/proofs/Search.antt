-- The first number that is a date's is the date's day.
use Rattle.std.specs.Prelude.{ℕ, ◌+◌, ◌≡◌, List, [], ◌∷◌, Bool, true, false, Option, Some}
use Rattle.std.specs.List.{position_from}
use mathlib.Core.Path.{refl}
use mathlib.Core.Bool.{cond}
use Rattle.choice.specs.Choice.{choose}
use Rattle.contract.specs.declared.types.Date.{Date}
use Rattle.calendar.specs.Days.{same_date, date_of, dates_of, day_from}

module _ (d : Date) where
  step : (t : Bool) (i : ℕ) (r q : Option ℕ) → r ≡ q → cond t (Some i) r ≡ choose t (Some i) q
  unfolding choose
  step true i r q e = refl
  step false i r q e = e

  pub searched : (i : ℕ) (numbers : List ℕ) → position_from (λ n. same_date (date_of n) d) i numbers ≡ day_from i (dates_of numbers) d
  unfolding day_from
  searched i [] = refl
  searched i (n ∷ ns) = step (same_date (date_of n) d) i _ _ (searched (i + 1) ns)
