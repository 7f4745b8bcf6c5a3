use Rattle.std.proofs.Common.{length, ◌≡◌, ◌-◌, ◌^◌}
use Rattle.calendar.specs.Days.{dates_of}
use Rattle.stream.proofs.Turns.{Reached}
use Rattle.replay.proofs.replayed.Given as goal

-- the rows of the pieces read so far are answered
abbrev pub invariant-loop : goal.invariant-loop
invariant-loop g l =
    (length l.buf ≡ length l.initial.buf) × (length l.out ≡ length l.initial.out)
    × Reached (dates_of l.calendar) l.initial.run.replay l.initial.out l.run l.buf l.out (2 ^ 64 - 1 - l.counter)
