-- What the parts of a replay give: the contracts of the functions below the program.
use Rattle.std.specs.Prelude.{◌≡◌, Bool, List, [], ◌∷◌, ℕ, ◌+◌, ◌%◌, ◌^◌, ◌≤◌, length, take, drop}
use Rattle.book.specs.Good.{Good}
use Rattle.book.specs.Step.{step_of}
use Rattle.book.specs.declared.state.Event.{Event}
use Rattle.contract.specs.declared.types.Date.{Date}
use Rattle.decimal.specs.Put.{Put}
use Rattle.report.specs.Report.{report_of, row_room}
use Rattle.rows.specs.Cut.{cut}
use Rattle.rows.specs.Row.{Row}
use Rattle.stream.specs.Rows.{read_rows, book_by, lines_by}
use Rattle.stream.specs.Output.{waiting_room, waits_on, let_go, Intact, Ready, Answered}
use Rattle.stream.specs.declared.types.Replay.{Replay}
use Rattle.stream.specs.declared.types.Waiting.{Waiting}

-- Text that stands at the front of the buffer of output waits on, or is let go.
pub record Flushed (text : List ℕ) (unbroken : Bool) (waiting : Waiting) (after : List ℕ) : Type 0 where
  pub room : waiting.at ≤ waiting_room
  pub waits : take waiting.at after ≡ waits_on text
  pub intact : Intact unbroken (let_go text) waiting.intact

-- An event is the row that was counted last: the book after it is its step's and good, and its report is put behind what waits.
pub record EventPut (from : Replay) (before : List ℕ) (event : Event) (to : Replay) (after : List ℕ) : Type 0 where
  pub good : Good to.book
  pub book : to.book ≡ (step_of from.book event).book
  pub number : to.row ≡ from.row
  pub lines : Put before from.waiting.at (report_of from.row from.book.series (step_of from.book event)) after to.waiting.at
  pub room : to.waiting.at ≤ from.waiting.at + row_room
  pub intact : to.waiting.intact ≡ from.waiting.intact

-- A row is answered: the book after it is good, it is counted, and its lines are put behind what waits.
pub record RowPut (from : Replay) (before : List ℕ) (row : Row) (to : Replay) (after : List ℕ) : Type 0 where
  pub good : Good to.book
  pub book : to.book ≡ book_by from.book row
  pub number : to.row ≡ (from.row + 1) % 2 ^ 64
  pub lines : Put before from.waiting.at (lines_by to.row from.book row) after to.waiting.at
  pub room : to.waiting.at ≤ from.waiting.at + row_room
  pub intact : to.waiting.intact ≡ from.waiting.intact

-- A row is answered, and what waits leaves room for the lines of one more: the replay is ready for it.
pub record RowPassed (from : Replay) (before : List ℕ) (row : Row) (to : Replay) (after : List ℕ) : Type 0 where
  pub answered : Answered from before (row ∷ []) to after
  pub ready : Ready to after

-- All rows that end in a buffer of input are answered, up to the place where the unfinished one starts.
pub record AllPassed (calendar : List Date) (input : List ℕ) (from : Replay) (before : List ℕ) (to : Replay) (after : List ℕ) (start : ℕ) : Type 0 where
  pub answered : Answered from before (read_rows calendar (cut input).rows) to after
  pub none : (cut (drop start input)).rows ≡ []
  pub unfinished : drop start input ≡ (cut input).rest
  pub within : start ≤ length input
  pub ready : Ready to after
