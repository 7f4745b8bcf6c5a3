-- `calendar_file::read_through` meets its contract.
use Rattle.calendar.proofs.Files.{same_buffer, read_file}
use Rattle.calendar_file.proofs.read_through.Goals as goal

pub of_contents-requires : goal.of_contents-requires
of_contents-requires g c = search same_buffer

pub returns : goal.returns
returns g c = search read_file
