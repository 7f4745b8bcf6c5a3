-- `replay::run_by` meets its contract.
use Rattle.std.proofs.Common.{rules}
use Rattle.calendar.proofs.Files.{dates_within}
use Rattle.stream.proofs.Turns.{ran_dates, ran_none}
use Rattle.replay.proofs.run_by.Goals as goal

pub slice_bounds-numbers-end : goal.slice_bounds-numbers-end
slice_bounds-numbers-end g c = search (dates_within, rules)

pub slice_bounds-with_input-end : goal.slice_bounds-with_input-end
slice_bounds-with_input-end g c = search (dates_within, rules)

pub returns : goal.returns
returns g c = (search rules, search ran_dates depth 12)

pub returns-in_default : goal.returns-in_default
returns-in_default g c = (search rules, search ran_none depth 12)
