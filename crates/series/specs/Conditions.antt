-- What the conditions of an event ask of one series (RULES, "Refusals").
use Rattle.std.specs.Prelude.{Bool, false, List, ℕ, ltb, eqb, ℤ, pos, ◌+ℤ◌}
use Rattle.choice.specs.Choice.{choose}
use Rattle.integer.specs.Table.{at}
use Rattle.places.specs.Places.{place_in, gross}
use Rattle.terms.specs.declared.Category.{Category}
use Rattle.terms.specs.declared.Category.TheVariants.{American, European}
use Rattle.terms.specs.Bounds.{max_position}

-- "The limit is on what each side has after the trade": an account's position once it changes in one section, "its two sections added
-- without sign"
unfoldable pub gross_after : List ℤ → ℕ → ℕ → ℤ → ℕ
gross_after positions account section change =
    gross (λ place. at positions place +ℤ choose (eqb place (place_in account section)) change (pos 0)) account

-- 8, position limit: such a position would pass its bound
unfoldable pub passes_limit : ℕ → Bool
passes_limit position = ltb max_position position

-- 12, not today: a European exercise before the last day
unfoldable pub too_early : Category → ℕ → ℕ → Bool
too_early American day last = false
too_early European day last = ltb day last
