-- `calendar_file::load_by` meets its contract.
use Rattle.calendar.proofs.Files.{loaded_missing, loaded_unreadable, loaded_readable}
use Rattle.calendar_file.proofs.load_by.Goals as goal

pub returns-in-Missing : goal.returns-in-Missing
returns-in-Missing g c = search loaded_missing

pub returns-in-Unreadable : goal.returns-in-Unreadable
returns-in-Unreadable g c = search loaded_unreadable

pub returns-in-Readable : goal.returns-in-Readable
returns-in-Readable g c = search loaded_readable
