-- `row_cut::kept_from` meets its contract.
use native.Mathlib.Omega.{arith}
use Rattle.rows.specs.Cut.{kept_from}
use Rattle.row_cut.proofs.kept_from.Goals as goal

pub returns-then-end-lt-KEPT : goal.returns-then-end-lt-KEPT
unfolding kept_from
returns-then-end-lt-KEPT c = omega arith

pub returns-then-last-from : goal.returns-then-last-from
unfolding kept_from
returns-then-last-from c = omega arith

pub returns-else-last-from : goal.returns-else-last-from
unfolding kept_from
returns-else-last-from c = omega arith
