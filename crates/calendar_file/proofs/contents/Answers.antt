-- `calendar_file::contents` meets its contract.
use Rattle.std.proofs.Common.{arith}
use Rattle.calendar.specs.File.{InBuffer}
use Rattle.stream.proofs.Turns.{filled_to}
use Rattle.calendar_file.proofs.contents.Goals as goal

pub loop-have-smaller : goal.loop-have-smaller
loop-have-smaller g c =
    let w = filled_to _ _ _ _ c.fill.ensures.0 c.in-UpTo.is in
    omega (arith, w.0, w.1, c.fill.auto.buf)

pub loop-have-preserved : goal.loop-have-preserved
loop-have-preserved g c =
    let w = filled_to _ _ _ _ c.fill.ensures.0 c.in-UpTo.is in
    (omega (arith, c.fill.auto.buf, c.loop-have.invariant.0), omega (arith, w.1, c.fill.auto.buf))

pub returns-in-Ended : goal.returns-in-Ended
unfolding InBuffer
returns-in-Ended g c = omega (arith, c.loop-have.invariant.0, c.loop-have.invariant.1)

pub returns-in-Failed : goal.returns-in-Failed
unfolding InBuffer
returns-in-Failed g c = tt

pub returns : goal.returns
unfolding InBuffer
returns g c = omega (arith, c.loop-have.invariant.0, c.loop-have.invariant.1)
