use native.Mathlib.Omega.{arith}
use Rattle.exercise.specs.Exercise.{half}
use Rattle.holders.proofs.half.Goals as goal

pub returns-in-Call : goal.returns-in-Call
unfolding half
returns-in-Call c = rw c.in-Call.is (omega arith)

pub returns-in-Put : goal.returns-in-Put
unfolding half
returns-in-Put c = rw c.in-Put.is
