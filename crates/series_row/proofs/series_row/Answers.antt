-- `series_row::series_row` meets its contract.
use Prim.Native.Nat.{◌+◌, ◌≤◌}
use native.Mathlib.Omega.{arith}
use lib.ListN.{length}
use Rattle.rows.proofs.Ends.{row_fits}
use Rattle.rows.proofs.Fields.{end_found, end_missing}
use Rattle.stream.specs.Rows.{series_row_at}
use Rattle.stream.proofs.NextRow.{row_none, row_on_none, row_on_series}
use Rattle.series_row.proofs.series_row.Goals.{In-Some}
use Rattle.series_row.proofs.series_row.Goals as goal

-- where the row that was found ends
module _ (c : In-Some) where
  ends : (c.args.from ≤ c.in-Some.end) × (c.in-Some.end + 2 ≤ length c.args.input.now)
  ends = row_fits _ _ _ c.row_end.ensures _ c.in-Some.is

pub returns-in_default : goal.returns-in_default
unfolding series_row_at
returns-in_default c = search end_missing

pub slice_bounds-read_row-count : goal.slice_bounds-read_row-count
slice_bounds-read_row-count c = (ends c).0

pub slice_bounds-read_row-start : goal.slice_bounds-read_row-start
slice_bounds-read_row-start c = (ends c).0

pub slice_bounds-read_row-end : goal.slice_bounds-read_row-end
slice_bounds-read_row-end c = omega (arith, (ends c).1)

pub returns-in_default-read_row : goal.returns-in_default-read_row
unfolding series_row_at
returns-in_default-read_row c = search (end_found, row_none) depth 12

pub returns-then-series-ge-SERIES : goal.returns-then-series-ge-SERIES
unfolding series_row_at
returns-then-series-ge-SERIES c = search (end_found, row_on_none) depth 12

pub overflow_add-result : goal.overflow_add-result
overflow_add-result c = omega (arith, (ends (goal.at.overflow_add-result c).In-Some).1, c.well_formed.1.0)

pub returns : goal.returns
unfolding series_row_at
returns c = search (end_found, row_on_series) depth 12
