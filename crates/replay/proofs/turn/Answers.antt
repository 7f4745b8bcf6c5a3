-- `replay::turn` meets its contract.
use Rattle.std.proofs.Common.{arith}
use Rattle.stream.specs.Input.{ending, failure}
use Rattle.stream.proofs.Turns.{filled_to, behind, turned_piece, turned_failure}
use Rattle.replay.proofs.turn.Goals as goal

pub pass-requires : goal.pass-requires
pass-requires g c = (c.requires.0, omega (arith, (filled_to _ _ _ _ c.fill.ensures.0 c.in-UpTo.is).1, c.fill.auto.buf))

-- ---- what a piece, the end and a failure give
pub returns-in-UpTo : goal.returns-in-UpTo
returns-in-UpTo g c =
    record { got = _; turned = turned_piece (behind _ _ _ _ (filled_to _ _ _ _ c.fill.ensures.0 c.in-UpTo.is).0 c.fill.ensures.1) c.pass.ensures }

pub returns-in-Ended : goal.returns-in-Ended
returns-in-Ended g c = record { got = ending; turned = rw c.fill.ensures.1 at c.last_row.ensures }

pub returns-in-Failed : goal.returns-in-Failed
returns-in-Failed g c = record { got = failure; turned = turned_failure _ _ c.requires.0 }
