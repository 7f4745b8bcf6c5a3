-- The file of the calendar (RULES, "Trading calendar").
use Rattle.std.specs.Prelude.{ℕ, ◌+◌, ◌≤◌, ◌≡◌, Bool, List, [], length, take, replicate, Option, Some, None}
use Rattle.std.proofs.lemmas.List.Edits.{sets}
use Rattle.choice.specs.Choice.{choose}
use Rattle.calendar.specs.Text.{max_text, Calendar, trading, broken, calendar_of, ReadAs}
use Rattle.calendar.specs.declared.types.Opened.{Opened}
use Rattle.calendar.specs.declared.types.Opened.TheVariants.{Missing, Readable, Unreadable}
use Rattle.calendar.specs.declared.types.Dates.{Dates}

-- what is found of it: no file, its bytes, or that it is there and can't be read
pub data File : Type 0 where
  missing : File
  holds : List ℕ → File
  unreadable : File

-- by what an attempt to open it tells: it was opened; else a link has its name, which leads nowhere that can be read; else it failed for want of
-- such a file, or for another reason
unfoldable pub opened_by : Bool → Bool → Bool → Opened
opened_by opened link none = choose opened Readable (choose link Unreadable (choose none Missing Unreadable))

-- by what reading it gave: bytes at the front of a buffer, or a read that failed
unfoldable pub file_of : Option ℕ → List ℕ → File
file_of (Some n) buffer = holds (take n buffer)
file_of None buffer = unreadable

-- these bytes stand in a buffer of n bytes
unfoldable pub InBuffer : ℕ → Option ℕ → Type 0
InBuffer n (Some count) = count ≤ n
InBuffer n None = Unit {0}

-- "No such file: an empty calendar"; 21 "where the file is there and can't be read"
unfoldable pub calendar_by : File → Calendar
calendar_by missing = trading []
calendar_by (holds bytes) = calendar_of bytes
calendar_by unreadable = broken

-- what is loaded of a file that was opened: "one byte past them is read, and no more"
pub record LoadedFrom (answer : Option Dates) : Type 0 where
  pub contents : Option ℕ
  pub buffer : List ℕ
  pub room : length buffer ≡ max_text + 1
  pub within : InBuffer (length buffer) contents
  pub read : ReadAs answer (calendar_by (file_of contents buffer))

-- what is loaded, by what opening it told
unfoldable pub LoadedBy : Opened → Option Dates → Type 0
LoadedBy Missing answer = ReadAs answer (calendar_by missing)
LoadedBy Unreadable answer = ReadAs answer (calendar_by unreadable)
LoadedBy Readable answer = LoadedFrom answer

-- what is loaded is the calendar of what is found; what is found, nothing here says
pub record Loaded (answer : Option Dates) : Type 0 where
  pub file : File
  pub read : ReadAs answer (calendar_by file)

-- a name as C reads it: zeros, with the name at their front
abbrev pub max_path : ℕ
max_path = 4096

abbrev pub path_of : List ℕ → List ℕ
path_of name = sets (replicate max_path 0) 0 name
