use mathlib.Core.Path.{◌≡◌}
use lib.ListN.{drop}
use Rattle.rows.specs.Field.{code_on}
use Rattle.row_fields.proofs.code_from.Given as goal

abbrev pub invariant-loop-i : goal.invariant-loop-i
invariant-loop-i l = code_on l.from (drop l.from l.s) ≡ code_on l.i (drop l.i l.s)
