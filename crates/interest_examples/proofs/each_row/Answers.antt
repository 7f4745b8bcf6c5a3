-- `interest_examples::each_row` meets its contract: a row that ends in the input has its CRLF there.
use Rattle.std.proofs.Common.{arith}
use Rattle.rows.proofs.Ends.{row_fits}
use Rattle.interest_examples.proofs.each_row.Goals as goal

pub slice_bounds-after_row-count : goal.slice_bounds-after_row-count
slice_bounds-after_row-count g c = (row_fits _ _ _ c.row_end.ensures _ c.in-Some.is).0

pub slice_bounds-after_row-start : goal.slice_bounds-after_row-start
slice_bounds-after_row-start g c = (row_fits _ _ _ c.row_end.ensures _ c.in-Some.is).0

pub slice_bounds-after_row-end : goal.slice_bounds-after_row-end
slice_bounds-after_row-end g c = omega (arith, (row_fits _ _ _ c.row_end.ensures _ c.in-Some.is).1)

pub overflow_add-from : goal.overflow_add-from
overflow_add-from g c = omega (arith, (row_fits _ _ _ c.row_end.ensures _ c.in-Some.is).1)

pub loop-end-smaller : goal.loop-end-smaller
loop-end-smaller g c =
    let ends = row_fits _ _ _ c.row_end.ensures _ c.in-Some.is in
    omega (arith, ends.0, ends.1)
