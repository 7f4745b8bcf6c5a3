-- `replay::replayed` meets its contract: between two reads the book is good, and there is room for the lines of one more row.
use Rattle.std.proofs.Common.{◌≡◌, ◌+◌, ◌-◌, ◌^◌, arith, refl, true}
use Rattle.stream.proofs.Lines.{put_behind}
use Rattle.stream.proofs.Turns.{Begun, begins, reached_more, replayed_uncounted, replayed_last}
use Rattle.replay.proofs.replayed.Given.{Over}
use Rattle.replay.proofs.replayed.Goals.{After-empty, else-loop-test, then-loop-test+then-not-run}
use Rattle.replay.proofs.replayed.Goals as goal

begun : (g : Over) (c : After-empty g) → Begun (record { book = c.empty.result; row = 0; waiting = record { at = c.header.result; intact = true } }) c.header.new.out
begun g c = record {
  row = refl;
  book = c.empty.ensures.0;
  waits = put_behind c.header.ensures.put (omega (arith, c.header.ensures.upper_bound, c.requires.1));
  intact = refl;
}

-- ---- the loop begins
pub loop-init : goal.loop-init
loop-init g c =
    (refl, refl, begins _ (record { good = c.empty.ensures.1; waiting = omega (arith, c.header.ensures.upper_bound); room = omega (arith, c.header.auto.out, c.requires.1) }))

-- ---- a turn, and the next
pub turn-requires : goal.turn-requires
turn-requires g c =
    (c.loop.invariant.2.ready, c.loop.invariant.2.few, omega (arith, c.loop.invariant.0, c.requires.0))

pub loop-preserved : goal.loop-preserved
loop-preserved g c =
    let left : 2 ^ 64 - 1 - c.loop.counter - 1 ≡ 2 ^ 64 - 1 - (c.loop.counter + 1) = omega arith in (
      omega (arith, c.turn.auto.buf, c.loop.invariant.0),
      omega (arith, c.turn.auto.out, c.loop.invariant.1),
      rw (← left) (reached_more c.loop.invariant.2 c.turn.ensures c.if-not-run.false (omega (arith, c.loop-test.true))),
    )

-- ---- no more turns are counted, or a turn was the last
pub returns : goal.returns
returns g c =
    let b = begun g (goal.at.returns g c).After-empty in
    elim c.loop-test.branch [
      | else-loop-test w ↦ rw (w.out-is, w.run-is) (c.loop.invariant.2.ready.waiting, replayed_uncounted c.loop.invariant.2 b (omega (arith, w.loop-test.false)))
      | then-loop-test+then-not-run w ↦ rw (w.out-is, w.run-is) (w.turn.ensures.turned.ready.waiting, replayed_last c.loop.invariant.2 b w.turn.ensures w.if-not-run.true)
    ]
