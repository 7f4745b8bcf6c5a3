-- `list_row::list` meets its contract.
use native.Mathlib.Omega.{arith}
use Rattle.choice.proofs.Chain.{hit, past, tests}
use Rattle.rows.proofs.Fields.{code_within}
use Rattle.rows.proofs.Readers.{fields}
use Rattle.rows.specs.Row.{list_row}
use Rattle.list_row.proofs.list.Goals as goal

pub returns-in_default : goal.returns-in_default
unfolding list_row
returns-in_default c = search fields depth 12

pub returns-in_default-number : goal.returns-in_default-number
unfolding list_row
returns-in_default-number c = search fields depth 12

pub slice_bounds-dated_listing-count : goal.slice_bounds-dated_listing-count
slice_bounds-dated_listing-count c =
    let f = code_within _ 1 _ _ c.code_end.ensures c.in-Some.is in
    omega (arith, f.0)

pub slice_bounds-dated_listing-start : goal.slice_bounds-dated_listing-start
slice_bounds-dated_listing-start c =
    let f = code_within _ 1 _ _ c.code_end.ensures c.in-Some.is in
    omega (arith, f.0)

pub slice_bounds-dated_listing-end : goal.slice_bounds-dated_listing-end
slice_bounds-dated_listing-end c =
    let f = code_within _ 1 _ _ c.code_end.ensures c.in-Some.is in
    omega (arith, f.1)

pub returns-then-b-s : goal.returns-then-b-s
unfolding list_row
returns-then-b-s c = search (fields, hit, past, tests) depth 12

pub returns-in_default-number-2 : goal.returns-in_default-number-2
unfolding list_row
returns-in_default-number-2 c = search (fields, hit, past, tests) depth 12

pub returns-then-c-s : goal.returns-then-c-s
unfolding list_row
returns-then-c-s c = search (fields, hit, past, tests) depth 14

pub slice_bounds-listing-count : goal.slice_bounds-listing-count
slice_bounds-listing-count c =
    let f = code_within _ 1 _ _ c.code_end.ensures c.in-Some.is in
    omega (arith, f.0)

pub slice_bounds-listing-start : goal.slice_bounds-listing-start
slice_bounds-listing-start c =
    let f = code_within _ 1 _ _ c.code_end.ensures c.in-Some.is in
    omega (arith, f.0)

pub slice_bounds-listing-end : goal.slice_bounds-listing-end
slice_bounds-listing-end c =
    let f = code_within _ 1 _ _ c.code_end.ensures c.in-Some.is in
    omega (arith, f.1)

pub returns : goal.returns
unfolding list_row
returns c = search (fields, hit, past, tests) depth 14
