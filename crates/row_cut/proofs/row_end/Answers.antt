-- `row_cut::row_end` meets its contract.
use mathlib.Core.Path.{refl}
use native.Mathlib.Omega.{arith}
use Rattle.rows.proofs.Ends.{end_here, end_later, end_never}
use Rattle.row_cut.proofs.row_end.Goals as goal

pub loop-i-init : goal.loop-i-init
loop-i-init c = refl

pub crlf-ends-requires : goal.crlf-ends-requires
crlf-ends-requires c = omega arith

pub returns-then-ends : goal.returns-then-ends
returns-then-ends c = search end_here

pub loop-i-preserved : goal.loop-i-preserved
loop-i-preserved c = search end_later

pub returns : goal.returns
returns c = search end_never
