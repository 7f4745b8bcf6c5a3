use mathlib.Core.Path.{◌≡◌}
use lib.ListN.{drop}
use Rattle.rows.specs.Cut.{end_from, end_on}
use Rattle.row_cut.proofs.row_end.Given as goal

abbrev pub invariant-loop-i : goal.invariant-loop-i
invariant-loop-i l = end_from l.s l.from ≡ end_on l.i (drop l.i l.s)
