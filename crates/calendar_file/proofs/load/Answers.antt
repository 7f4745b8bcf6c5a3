-- `calendar_file::load` meets its contract.
use Rattle.calendar.proofs.Files.{loaded_by}
use Rattle.calendar_file.proofs.load.Goals as goal

pub returns : goal.returns
returns g c = search loaded_by
