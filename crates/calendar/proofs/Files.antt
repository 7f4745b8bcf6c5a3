-- The file of the calendar: what is loaded of it.
use Prim.Native.Nat.{ℕ, ◌+◌, ◌-◌, ◌≤◌, ◌<◌}
use mathlib.Core.Path.{◌≡◌, refl, ap, ◌∙◌}
use mathlib.Core.List.{List, ◌++◌}
use native.Mathlib.Omega.{arith}
use lib.ListN.{length, get_or, take, drop, replicate, length-replicate, get_or-replicate}
use lib.Seq.{sets-eq, get_or-append-add, get_or-drop}
use Rattle.std.specs.Prelude.{Option, Some, None}
use Rattle.calendar.specs.Days.{max_dates}
use Rattle.calendar.specs.Text.{max_text, calendar_of, read_as, Few, Room, ReadAs}
use Rattle.calendar.specs.File.{missing, unreadable, calendar_by, file_of, InBuffer, LoadedFrom, LoadedBy, Loaded, max_path, path_of}
use Rattle.calendar.specs.declared.types.Opened.{Opened}
use Rattle.calendar.specs.declared.types.Opened.TheVariants.{Missing, Readable, Unreadable}
use Rattle.calendar.specs.declared.types.Dates.{Dates}

pub bytes_within : (n count : ℕ) (r : Option ℕ) → InBuffer n r → r ≡ Some count → count ≤ n
unfolding InBuffer
bytes_within n count r w e = rw e at w

pub same_buffer : (m n : ℕ) (r : Option ℕ) → m ≡ n → InBuffer n r → InBuffer m r
same_buffer m n r e w = rw e w

-- dates that were read stand in the list
pub dates_within : (r : Option Dates) (dates : Dates) → Few r → Room r → r ≡ Some dates → dates.count ≤ length dates.numbers
unfolding Few Room
dates_within r dates f l e =
    let few : dates.count ≤ max_dates = rw e at f in
    let room : length dates.numbers ≡ max_dates = rw e at l in
    omega (arith, few, room)

-- an answer without dates
abbrev without : Option Dates
without = Some (record { numbers = replicate max_dates 0; count = 0 })

empty_read : ReadAs without (calendar_by missing)
unfolding read_as Few Room calendar_by
empty_read = record { says = refl; few = omega arith; room = length-replicate {A = ℕ} max_dates 0 }

none_read : ReadAs None (calendar_by unreadable)
unfolding read_as Few Room calendar_by
none_read = record { says = refl; few = tt; room = tt }

-- by what reading the file gave
module _ {r : Option Dates} (found : Option ℕ) (buffer : List ℕ) where
  pub read_bytes : (n : ℕ) → found ≡ Some n → ReadAs r (calendar_of (take n buffer)) → ReadAs r (calendar_by (file_of found buffer))
  unfolding file_of calendar_by
  read_bytes n e h = rw e h

  pub read_failed : found ≡ None → r ≡ None → ReadAs r (calendar_by (file_of found buffer))
  unfolding file_of
  read_failed e q = rw (e, q) none_read

  pub read_file : (n : ℕ) → length buffer ≡ n → n ≡ max_text + 1 → InBuffer n found → ReadAs r (calendar_by (file_of found buffer)) → LoadedFrom r
  read_file n e l w h = record { contents = found; buffer = buffer; room = e ∙ l; within = same_buffer _ _ found e w; read = h }

-- by what opening it told
module _ {r : Option Dates} (found : Opened) where
  pub loaded_missing : found ≡ Missing → r ≡ without → LoadedBy found r
  unfolding LoadedBy
  loaded_missing e q = rw (e, q) empty_read

  pub loaded_unreadable : found ≡ Unreadable → r ≡ None → LoadedBy found r
  unfolding LoadedBy
  loaded_unreadable e q = rw (e, q) none_read

  pub loaded_readable : found ≡ Readable → LoadedFrom r → LoadedBy found r
  unfolding LoadedBy
  loaded_readable e h = rw e h

pub loaded_by : {r : Option Dates} (found : Opened) → LoadedBy found r → Loaded r
unfolding LoadedBy
loaded_by Missing h = record { file = missing; read = h }
loaded_by Unreadable h = record { file = unreadable; read = h }
loaded_by Readable h = record { file = file_of h.contents h.buffer; read = h.read }

-- ---- its name: a name that leaves room for a 0 ends in one
pub path_ended : (name : List ℕ) → length name < max_path → get_or (path_of name) (max_path - 1) 1 ≡ 0
path_ended name h =
    let zeros : List ℕ = replicate max_path 0 in
    let rest : ℕ = max_path - 1 - length name in
    let before : max_path - 1 ≡ length name + rest = omega (arith, h) in
    let behind : 0 + length name + rest ≡ max_path - 1 = omega (arith, h) in
    ap (λ (l : List ℕ). get_or l (max_path - 1) 1) (sets-eq name zeros 0 (omega (arith, h, length-replicate {A = ℕ} max_path 0)))
    ∙ ap (λ (k : ℕ). get_or (name ++ drop (0 + length name) zeros) k 1) before
    ∙ get_or-append-add name (drop (0 + length name) zeros) rest 1
    ∙ get_or-drop (0 + length name) zeros rest 1
    ∙ ap (λ (k : ℕ). get_or zeros k 1) behind
    ∙ get_or-replicate max_path (max_path - 1) 0 1 (omega arith)

pub path_ends : (name path : List ℕ) → path ≡ path_of name → length name < max_path → get_or path (max_path - 1) 1 ≡ 0
path_ends name path e h = ap (λ (l : List ℕ). get_or l (max_path - 1) 1) e ∙ path_ended name h
