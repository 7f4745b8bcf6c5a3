-- `calendar_found::of_contents` meets its contract.
use mathlib.Core.Path.{sym}
use lib.Seq.{length-take-le}
use Rattle.calendar.proofs.Files.{bytes_within, read_bytes, read_failed}
use Rattle.calendar_found.proofs.of_contents.Goals as goal

pub returns-in_default : goal.returns-in_default
returns-in_default c = search read_failed

pub slice_bounds-read-end : goal.slice_bounds-read-end
slice_bounds-read-end c = sym (length-take-le _ _ (search bytes_within))

pub returns : goal.returns
returns c = search read_bytes
