-- "Both sessions use the marks of all live series, then drop them" (RULES, "Events").
use mathlib.Core.Path.{◌≡◌, refl}
use Prim.Native.Nat.{ℕ}
use Rattle.series.specs.Changes.{unmarked, settled}
use Rattle.series.specs.Series.{no_mark}
use Rattle.series.specs.declared.state.Series.{Series}

pub dropped_by_intraday : (s : Series) → (unmarked s).mark ≡ no_mark
dropped_by_intraday s = refl

pub dropped_by_evening : (s : Series) (day : ℕ) → (settled s day).mark ≡ no_mark
dropped_by_evening s day = refl
