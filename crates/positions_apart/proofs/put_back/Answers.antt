-- `positions_apart::put_back` meets its contract: the series passed have their positions and open interest back.
use borrow.Author.Rules.{rules}
use mathlib.Core.Path.{refl}
use native.Mathlib.Omega.{arith}
use Rattle.integer.proofs.Table.{updated_start, updated_next, updated_rest}
use Rattle.book.specs.State.{no_series}
use Rattle.positions_apart.proofs.put_back.Goals as goal

pub loop-i-init : goal.loop-i-init
loop-i-init c = (omega arith, updated_start _ no_series _ (search rules))

pub loop-i-preserved : goal.loop-i-preserved
loop-i-preserved c =
    let l = c.before.before.before in
    (omega arith, updated_next l.loop-i.invariant.1 (omega arith) _ (rw (l.loop-i.invariant.1.left l.loop-i.i (omega arith)) refl))

pub returns : goal.returns
returns c = updated_rest c.loop-i.invariant.1 (λ k le lt. absurd (omega arith))
