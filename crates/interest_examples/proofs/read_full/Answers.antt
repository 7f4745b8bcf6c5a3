-- `interest_examples::read_full` meets its contract.
use Rattle.std.proofs.Common.{arith}
use Rattle.stream.proofs.Turns.{filled_to}
use Rattle.interest_examples.proofs.read_full.Goals as goal

pub loop-have-smaller : goal.loop-have-smaller
loop-have-smaller g c =
    let w = filled_to _ _ _ _ c.fill.ensures.0 c.in-UpTo.is in
    omega (arith, w.0, w.1, c.fill.auto.buf)

pub loop-have-preserved : goal.loop-have-preserved
loop-have-preserved g c =
    let w = filled_to _ _ _ _ c.fill.ensures.0 c.in-UpTo.is in
    omega (arith, w.1, c.fill.auto.buf)
