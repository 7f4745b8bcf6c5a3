-- `replay::with_calendar` meets its contract.
use Rattle.std.proofs.Common.{rules}
use Rattle.stream.proofs.Turns.{ran_loaded}
use Rattle.replay.proofs.with_calendar.Goals as goal

pub returns : goal.returns
returns g c = (search rules, search ran_loaded)
