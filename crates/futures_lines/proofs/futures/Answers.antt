-- `futures_lines::futures` meets its contract: the lines of the series passed stand in the buffer.
use mathlib.Core.Path.{◌≡◌, refl}
use native.Mathlib.Omega.{arith}
use borrow.Author.Rules.{rules}
use Rattle.terms.specs.Bounds.{series_room}
use Rattle.report.proofs.InTurn.{in_turn_put, in_turn_next}
use Rattle.futures_lines.proofs.futures.Goals as goal

pub loop-i-init : goal.loop-i-init
loop-i-init c = (omega arith, refl, omega arith, in_turn_put _ _ _)

pub loop-i-preserved : goal.loop-i-preserved
loop-i-preserved c =
    let call = c.series_futures-next.ensures in
    (omega arith, search rules, omega (arith, call.upper_bound), in_turn_next c.loop-i.i _ c.loop-i.invariant.3 call.put)

pub returns : goal.returns
returns c =
    let loop = c.loop-i in
    let all : loop.i ≡ series_room = omega arith in
    record { put = rw all at loop.invariant.3; upper_bound = omega arith }
