-- `calendar_file::read_file` meets its contract: of a file that could not be opened nothing was read.
use Rattle.std.proofs.Common.{rules, refl}
use Rattle.calendar.specs.File.{InBuffer}
use Rattle.calendar.proofs.Files.{read_file}
use Rattle.calendar_file.proofs.read_file.Goals as goal

pub of_contents-requires : goal.of_contents-requires
unfolding InBuffer
of_contents-requires g c = tt

pub returns-in-Err : goal.returns-in-Err
unfolding InBuffer
returns-in-Err g c = read_file _ _ _ refl (search rules) tt c.of_contents.ensures
