use Rattle.std.proofs.Common.{◌≡◌, ℕ, ◌-◌, ◌≤◌, List, length, drop}
use Rattle.contract.specs.declared.types.Date.{Date}
use Rattle.calendar.specs.Days.{dates_of}
use Rattle.terms.specs.Bounds.{series_room}
use Rattle.book.specs.Apart.{rejoined}
use Rattle.book.specs.declared.state.Held.{Held}
use Rattle.rows.specs.Cut.{cut}
use Rattle.stream.specs.Output.{AnsweredUpTo, Ready}
use Rattle.stream.specs.declared.types.Replay.{Replay}
use Rattle.rows_in_place.proofs.whole_rows.Given as goal

-- the rows up to a place of the buffer are answered, and the replay is ready for the next
pub record UpTo (calendar : List Date) (input : List ℕ) (first : Replay) (before : List ℕ) (to : Replay) (from : ℕ) (after : List ℕ) : Type 0 where
  pub answered : AnsweredUpTo calendar first before (cut input) to after (cut (drop from input))
  pub within : from ≤ length input
  pub ready : Ready to after

-- the replay that the loop holds, with the positions put back
abbrev pub state : Replay → List Held → Replay
state replay held = record { book = rejoined replay.book held; row = replay.row; waiting = replay.waiting }

abbrev pub invariant-loop-series : goal.invariant-loop-series
invariant-loop-series g l =
    (length l.out ≡ length l.initial.out) × (length l.replay.book.series ≡ series_room) × (length l.held ≡ series_room)
    × UpTo (dates_of l.calendar) l.input l.initial.replay l.initial.out (state l.replay l.held) l.from l.out

abbrev pub decreases-loop-series : goal.decreases-loop-series
decreases-loop-series g l = length l.input - l.from
