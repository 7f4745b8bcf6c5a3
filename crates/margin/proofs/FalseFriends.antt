-- The false friend of this layer (RULES, "Values and splits"), as a fact of the definition that the sessions use.
use mathlib.Core.Path.{◌≡◌, refl}
use lib.IntN.{pos}
use Rattle.value.specs.Rounding.{nearest}
use Rattle.margin.specs.Margin.{revalued}

-- c 50000, prices 2 and 1, one contract held throughout: it gains 0; a rounded difference would say 1
pub gain_by_values : revalued 50000 (pos 1) 2 (pos 1) 1 ≡ pos 0
unfolding nearest
gain_by_values = refl
