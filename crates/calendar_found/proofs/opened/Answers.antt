-- `calendar_found::opened` meets its contract.
use Rattle.choice.proofs.Chain.{hit, past, tests}
use Rattle.calendar.specs.File.{opened_by}
use Rattle.calendar_found.proofs.opened.Goals as goal

pub returns-then-readable : goal.returns-then-readable
unfolding opened_by
returns-then-readable c = search (hit, past, tests)

pub returns-then-link : goal.returns-then-link
unfolding opened_by
returns-then-link c = search (hit, past, tests)

pub returns-then-missing : goal.returns-then-missing
unfolding opened_by
returns-then-missing c = search (hit, past, tests)

pub returns : goal.returns
unfolding opened_by
returns c = search (hit, past, tests)
